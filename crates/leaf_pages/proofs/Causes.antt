-- Why a page is refused, as a result.
use Rattle.std.proofs.Common.{◌≡◌, ◌⊎◌, inl, inr, sym, ◌∙◌}
use Rattle.std.specs.Prelude.{Result, Ok, Err, IfErr}
use Rattle.columns_base.specs.declared.error.Error.{Error}
use Rattle.columns_base.specs.declared.error.Error.TheVariants.{Memory, Overflow}
use Rattle.columns_base.specs.declared.error.V.TheVariants.{V3}
use Rattle.pq_tree.specs.Reads.{ComesWhere}

-- an error that is not among those that come, where its condition does not hold
pub never : {A : Type 0} (reason : Error) (C : Type 0) → ¬ C → ¬ (Overflow V3 ≡ reason) → (r : Result A Error) → IfErr r (λ e. (e ≡ Memory) ⊎ (e ≡ Overflow V3)) → ComesWhere reason C r
never reason C n d (Ok x) h = n
never reason C n d (Err e) h = elim h [ inl m ↦ inl m | inr v ↦ inr (λ r. absurd (d (sym v ∙ r)), λ c. absurd (n c)) ]

pub each_err : {A : Type 0} (r : Result A Error) (P Q : Error → Type 0) → ((e : Error) → P e → Q e) → IfErr r P → IfErr r Q
each_err (Ok x) P Q f h = h
each_err (Err e) P Q f h = f e h
