-- A reader behind its last page, and behind an error.
use Rattle.std.proofs.Common.{◌≡◌, ℕ, List, [], ◌∷◌, None, refl, sym, ap, subst, ◌∙◌, inl, inr}
use Rattle.std.specs.Prelude.{◌⊎◌, ◌≢◌}
use Rattle.columns_base.specs.declared.error.Error.{Error}
use Rattle.columns_base.specs.declared.error.Error.TheVariants.{Memory}
use Rattle.pq_pages.specs.declared.place.Place.{Place}
use Rattle.pq_pages.specs.Outcomes.{Levels, Outcome, Takes, fails}
use Rattle.pq_pages.specs.Reading.{pages_in}
use Rattle.pq_pages.proofs.Steps.{at_end}

pub ended : (max : ℕ) (levels : Levels) (place : Place) (left : ℕ) (bytes : List ℕ) (os : List Outcome) → os ≡ pages_in max levels place left bytes → left ≡ 0 → Takes os (pages_in max levels place left bytes) None
ended max levels place left bytes os are none =
    let empty : pages_in max levels place left bytes ≡ [] = ap (λ (k : ℕ). pages_in max levels place k bytes) none ∙ at_end max levels place bytes in
    subst (λ (xs : List Outcome). Takes xs (pages_in max levels place left bytes) None) (sym (are ∙ empty)) (empty, refl)

pub failed : (max : ℕ) (levels : Levels) (place : Place) (left after : ℕ) (bytes : List ℕ) (os : List Outcome) (e : Error) → os ≡ pages_in max levels place left bytes → (e ≡ Memory) ⊎ (pages_in max levels place left bytes ≡ fails e ∷ [])
    → ((e ≡ Memory) × (after ≡ left)) ⊎ ((e ≢ Memory) × (after ≡ 0)) → ((e ≡ Memory) × (pages_in max levels place after bytes ≡ os)) ⊎ (os ≡ fails e ∷ pages_in max levels place after bytes)
failed max levels place left after bytes os e are refused (inl kept) = inl (kept.0, ap (λ (k : ℕ). pages_in max levels place k bytes) kept.1 ∙ sym are)
failed max levels place left after bytes os e are (inl m) (inr gone) = absurd (gone.0 m)
failed max levels place left after bytes os e are (inr is) (inr gone) = inr (are ∙ is ∙ ap (λ (xs : List Outcome). fails e ∷ xs) (sym (ap (λ (k : ℕ). pages_in max levels place k bytes) gone.1 ∙ at_end max levels place bytes)))

-- what no column gives, this one does not give
pub of_levels : (max : ℕ) (levels : Levels) (place : Place) (left : ℕ) (bytes : List ℕ) (e : Error) → (e ≡ Memory) ⊎ ((l : Levels) → pages_in max l place left bytes ≡ fails e ∷ []) → (e ≡ Memory) ⊎ (pages_in max levels place left bytes ≡ fails e ∷ [])
of_levels max levels place left bytes e (inl m) = inl m
of_levels max levels place left bytes e (inr f) = inr (f levels)
