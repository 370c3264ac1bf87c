-- A column has one statistics only.
use Rattle.std.proofs.Common.{◌≡◌, ℕ, ℤ, ◌≤ℤ◌, inl, inr, Bool, true, false, true≢false, List, [], ◌∷◌, Option, Some, None, refl, sym, ap, ◌∙◌, arith}
use Rattle.std.proofs.lemmas.Int.{ints}
use Rattle.std.proofs.lemmas.List.Elements.{All-contains}
use Rattle.shredding.specs.Shape.{LeafType}
use Rattle.shredding.specs.Slot.{Value, truth, number, bytes}
use Rattle.pq_tree.specs.Physical.{Physical}
use Rattle.pq_files.specs.Page.{values_in}
use Rattle.pq_files.specs.Statistics.{Bounds, HasBounds, IsBefore, IsImplied, IsUpTo, has_order}
use Rattle.pq_files.specs.Stored.{IsStored}
use Rattle.page_statistics.specs.Laws.{StatisticsAreUnique}
use Rattle.page_statistics.specs.Spelled.{AreSpelled, BoundsAreSpelled, HasOwnBytes, IsSpelled, bound_text}

implied_once : (a b : Bool) → IsImplied a b → IsImplied b a → a ≡ b
implied_once false false h k = refl
implied_once true true h k = refl
implied_once false true h k = absurd (true≢false (sym k))
implied_once true false h k = absurd (true≢false (sym h))

before_once : (s t : List ℕ) → IsBefore s t → IsBefore t s → s ≡ t
before_once [] [] h k = refl
before_once [] (b ∷ t) h k = absurd k
before_once (a ∷ s) [] h k = absurd h
before_once (a ∷ s) (b ∷ t) (inl h) (inl k) = absurd (omega (arith, h, k))
before_once (a ∷ s) (b ∷ t) (inl h) (inr k) = absurd (omega (arith, h, k.0))
before_once (a ∷ s) (b ∷ t) (inr h) (inl k) = absurd (omega (arith, h.0, k))
before_once (a ∷ s) (b ∷ t) (inr h) (inr k) = ap (λ (x : ℕ). x ∷ s) h.0 ∙ ap (λ (u : List ℕ). b ∷ u) (before_once s t h.1 k.1)

number_once : (a b : ℤ) → a ≤ℤ b → b ≤ℤ a → a ≡ b
number_once a b h k = omega (arith, ints, h, k)

up_to_once : (u v : Value) → IsUpTo u v → IsUpTo v u → u ≡ v
up_to_once (truth a) (truth b) h k = ap (λ (c : Bool). truth c) (implied_once a b h k)
up_to_once (number a) (number b) h k = ap (λ (c : ℤ). number c) (number_once a b h k)
up_to_once (bytes a) (bytes b) h k = ap (λ (c : List ℕ). bytes c) (before_once a b h k)
up_to_once (truth a) (number b) h k = absurd h
up_to_once (truth a) (bytes b) h k = absurd h
up_to_once (number a) (truth b) h k = absurd h
up_to_once (number a) (bytes b) h k = absurd h
up_to_once (bytes a) (truth b) h k = absurd h
up_to_once (bytes a) (number b) h k = absurd h

module _ (t : LeafType) (p : Physical) (once : (v s r : Value) → HasOwnBytes t s → HasOwnBytes t r → IsStored t p v s → IsStored t p v r → s ≡ r) where
  text_once : (a b : List ℕ) (v w : Value) → v ≡ w → IsSpelled t p a v → IsSpelled t p b w → a ≡ b
  text_once a b v w e h k = h.is ∙ (ap (bound_text p) (once w h.stored k.stored h.has_bytes k.has_bytes (rw e at h.is_stored) k.is_stored) ∙ sym k.is)

  made_once : (a b : Bounds) → a.least ≡ b.least → a.greatest ≡ b.greatest → a ≡ b
  made_once a b l g = λ i. record { least = l i; greatest = g i }

  bounds_once : (vs : List Value) (a b : Bounds) → AreSpelled t p a vs → AreSpelled t p b vs → a ≡ b
  bounds_once vs a b h k =
      let low : h.low ≡ k.low = up_to_once h.low k.low (All-contains (λ v. IsUpTo h.low v) vs k.low h.is_low k.has_low) (All-contains (λ v. IsUpTo k.low v) vs h.low k.is_low h.has_low) in
      let high : h.high ≡ k.high = up_to_once h.high k.high (All-contains (λ v. IsUpTo v k.high) vs h.high k.is_high h.has_high) (All-contains (λ v. IsUpTo v h.high) vs k.high h.is_high k.has_high) in
      made_once a b (text_once a.least b.least h.low k.low low h.low_text k.low_text) (text_once a.greatest b.greatest h.high k.high high h.high_text k.high_text)

  some_once : (o : Bool) (vs : List Value) (a b : Option Bounds) → HasBounds t p o a vs → BoundsAreSpelled t p vs a → HasBounds t p o b vs → BoundsAreSpelled t p vs b → a ≡ b
  some_once o vs None None h x k y = refl
  some_once o vs (Some a) (Some b) h x k y = ap (λ (c : Bounds). Some c) (bounds_once vs a b x y)
  some_once true [] (Some a) None h x k y = absurd h
  some_once true (v ∷ vs) (Some a) None h x k y = absurd k
  some_once false vs (Some a) None h x k y = absurd h
  some_once true [] None (Some b) h x k y = absurd k
  some_once true (v ∷ vs) None (Some b) h x k y = absurd h
  some_once false vs None (Some b) h x k y = absurd k

pub statistics_are_unique : StatisticsAreUnique
statistics_are_unique true t p column (Some a) (Some b) once h x k y =
    let n : a.null_count ≡ b.null_count = h.null_count ∙ sym k.null_count in
    let m : a.bounds ≡ b.bounds = some_once t p once (has_order t) (values_in column) a.bounds b.bounds h.bounds x k.bounds y in
    λ i. Some (record { null_count = n i; bounds = m i })
statistics_are_unique true t p column None b once h x k y = absurd h
statistics_are_unique true t p column (Some a) None once h x k y = absurd k
statistics_are_unique false t p column None None once h x k y = refl
statistics_are_unique false t p column (Some a) b once h x k y = absurd h
statistics_are_unique false t p column None (Some b) once h x k y = absurd k
