-- Why no dictionary array is made.
use Rattle.std.proofs.Common.{◌≡◌, ◌⊎◌, ◌↔◌, Result, Ok, Err, IfErr, inl, inr, ap}
use Rattle.std.specs.Prelude.{IsErrOf}
use Rattle.columns_base.specs.declared.error.Error.{Error}
use Rattle.columns_base.specs.declared.error.Error.TheVariants.{InvalidArgumentError, Memory}
use Rattle.columns_base.specs.declared.error.A.TheVariants.{A8}

pub why_unmade : {X : Type 0} (P Q : Type 0) (result : Result X Error) → (Q → P) → IfErr result (λ e. (e ≡ Memory) ⊎ (e ≡ InvalidArgumentError A8)) → (IsErrOf result (InvalidArgumentError A8) ↔ (P → ⊥)) → IfErr result (λ e. (e ≡ Memory) ⊎ (Q → ⊥))
why_unmade P Q (Ok x) f why refused = tt
why_unmade P Q (Err e) f (inl m) refused = inl m
why_unmade P Q (Err e) f (inr a) refused = inr (λ q. refused.0 (ap Err a) (f q))
