-- An empty section holds no indices.
use Rattle.std.proofs.Common.{◌≡◌, ◌<◌, ◌≤◌, ℕ, true, false, List, [], ◌∷◌, length, refl, arith}
use Rattle.std.specs.Prelude.{Result, Ok, Err, MatchResult}
use Rattle.columns_base.specs.declared.error.Error.{Error}
use Rattle.pq_runs.specs.Hybrid.{fault, hybrid, Item}
use Rattle.read_column.specs.Dictionary.{indices_in}
use Rattle.leaf_iters.specs.Indices.{is_too_wide}

nothing : (section : List ℕ) → hybrid 0 0 section ≡ []
unfolding hybrid
nothing section = refl

pub none_there : (count : ℕ) (section : List ℕ) (r : Result (List Item) Error) → length section ≡ 0 → MatchResult r (λ items. (0 ≤ 32) × (items ≡ hybrid 0 0 section)) (λ e. (e ≡ fault) × (32 < 0)) → MatchResult r (λ indices. (is_too_wide section ≡ false) × (indices ≡ indices_in count section)) (λ e. (e ≡ fault) × (is_too_wide section ≡ true))
none_there count [] (Ok items) e h = (refl, rw h.1 (nothing []))
none_there count [] (Err x) e h = absurd (omega (arith, h.1))
none_there count (w ∷ runs) r e h = absurd (omega (arith, e))
