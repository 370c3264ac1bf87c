-- The places of a stretch, and those that are picked, one by one.
use Rattle.std.proofs.Common.{◌≡◌, ℕ, ◌+◌, ◌-◌, ◌<◌, ◌≤◌, List, [], ◌∷◌, ◌++◌, All, arith, ap, sym, subst, ◌∙◌, refl, append_assoc, append-nil}
use Rattle.std.proofs.lemmas.List.Elements.{All-from_recursion, recursion_from_All}
use Rattle.write_places.specs.Places.{picked, range}
use Rattle.write_places.proofs.Gather.{gather-more, gather-none, gather-split}
use Rattle.write_places.proofs.Picked.{IsNext}
use Rattle.write_values.proofs.Picked.{picked_none}
use Rattle.dictionary_pages.specs.Taken.{back-all}

-- of each place of a stretch
pub at_range : (P : ℕ → Type 0) (from i to : ℕ) → from ≤ i → i < to → All P (range from (to - from)) → P i
at_range P from i to low high h =
    let one : ℕ → List ℕ = λ j. j ∷ [] in
    let n : to - i ≡ (to - i - 1) + 1 = omega (arith, high) in
    let split : range from (to - from) ≡ range from (i - from) ++ (i ∷ range (i + 1) (to - i - 1)) =
    gather-split one from i to low (omega (arith, high)) ∙ ap (λ (xs : List ℕ). range from (i - from) ++ xs) (gather-more one i (to - i) (to - i - 1) n) in
    (recursion_from_All P (i ∷ range (i + 1) (to - i - 1)) (back-all P (range from (i - from)) (i ∷ range (i + 1) (to - i - 1)) (subst (All P) split h))).0

-- of the first of the places that are picked, and of the others
pub next_accepted : (P : ℕ → Type 0) (word left from count t : ℕ) → IsNext word left from count t → All P (picked word from count) → P (from + t) × All P (picked left from count)
next_accepted P word left from count t n h =
    let r = recursion_from_All P ((from + t) ∷ picked left from count) (subst (All P) n.places h) in
    (r.0, All-from_recursion P (picked left from count) r.1)

-- of the places that are picked those that are taken, and those that are left
pub record IsDone (done : List ℕ) (bits left from count : ℕ) : Type 0 where
  pub parts : done ++ picked left from count ≡ picked bits from count

pub done_more : (done : List ℕ) (bits word left from count t : ℕ) → IsDone done bits word from count → IsNext word left from count t → IsDone (done ++ ((from + t) ∷ [])) bits left from count
done_more done bits word left from count t h n = record { parts = append_assoc done ((from + t) ∷ []) (picked left from count) ∙ (ap (λ (xs : List ℕ). done ++ xs) (sym n.places) ∙ h.parts) }

pub done_all : (done : List ℕ) (bits left from count : ℕ) → IsDone done bits left from count → left ≡ 0 → done ≡ picked bits from count
done_all done bits left from count h e = sym (append-nil done) ∙ (ap (λ (xs : List ℕ). done ++ xs) (sym (picked_none left from count e)) ∙ h.parts)

pub one_range : (i : ℕ) → range i (i + 1 - i) ≡ i ∷ []
one_range i =
    let one : ℕ → List ℕ = λ j. j ∷ [] in
    let n : i + 1 - i ≡ 0 + 1 = omega arith in
    gather-more one i (i + 1 - i) 0 n ∙ ap (λ (xs : List ℕ). (i ∷ []) ++ xs) (gather-none one (i + 1) 0 refl)
