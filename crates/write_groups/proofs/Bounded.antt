-- A column has one statistics only, whatever values its bounds are taken of.
use Rattle.std.proofs.Common.{◌≡◌, ℕ, Bool, true, false, List, [], ◌∷◌, Option, Some, None, is_none, refl, sym, ap, subst, ◌∙◌}
use Rattle.std.specs.Prelude.{count_by}
use Rattle.shredding.specs.Shape.{LeafType}
use Rattle.shredding.specs.Shred.{Triple}
use Rattle.shredding.specs.Slot.{Value}
use Rattle.pq_tree.specs.Physical.{Physical}
use Rattle.pq_files.specs.Page.{values_in}
use Rattle.pq_files.specs.Statistics.{Bounds, Statistics, HasBounds, HasStatistics, has_order}
use Rattle.pq_files.specs.Stored.{IsStored}
use Rattle.page_statistics.proofs.Unique.{statistics_are_unique}
use Rattle.page_statistics.specs.Spelled.{BoundsAreSpelled, HasOwnBytes, IsExact}

-- a column of these values
abbrev ones : List Value → List Triple
ones [] = []
ones (v ∷ vs) = record { repetition = 0; definition = 0; value = Some v } ∷ ones vs

ones_are : (vs : List Value) → values_in (ones vs) ≡ vs
ones_are [] = refl
ones_are (v ∷ vs) = ap (λ (ws : List Value). v ∷ ws) (ones_are vs)

abbrev no_nulls : List Value → ℕ
no_nulls vs = count_by (λ (x : Triple). is_none x.value) (ones vs)

abbrev bounds_in : Option Statistics → Option Bounds
bounds_in None = None
bounds_in (Some s) = s.bounds

abbrev over : List Value → Option Bounds → Statistics
over vs b = record { null_count = no_nulls vs; bounds = b }

module _ (t : LeafType) (p : Physical) (vs : List Value) where
  over_has : (b : Option Bounds) → HasBounds t p (has_order t) b vs → HasStatistics true t p (Some (over vs b)) (ones vs) (values_in (ones vs))
  over_has b h = record { null_count = refl; bounds = subst (λ (ws : List Value). HasBounds t p (has_order t) b ws) (sym (ones_are vs)) h }

  over_exact : (b : Option Bounds) → BoundsAreSpelled t p vs b → IsExact t p (values_in (ones vs)) (Some (over vs b))
  over_exact b h = subst (λ (ws : List Value). BoundsAreSpelled t p ws b) (sym (ones_are vs)) h

  pub one_statistics : (wanted : Bool) (ts : List Triple) (a b : Option Statistics) → ((v s r : Value) → HasOwnBytes t s → HasOwnBytes t r → IsStored t p v s → IsStored t p v r → s ≡ r)
      → HasStatistics wanted t p a ts vs → IsExact t p vs a → HasStatistics wanted t p b ts vs → IsExact t p vs b → a ≡ b
  one_statistics true ts (Some a) (Some b) once h x k y =
      let same = statistics_are_unique true t p (ones vs) (Some (over vs a.bounds)) (Some (over vs b.bounds)) once (over_has a.bounds h.bounds) (over_exact a.bounds x) (over_has b.bounds k.bounds) (over_exact b.bounds y) in
      let n : a.null_count ≡ b.null_count = h.null_count ∙ sym k.null_count in
      let m : a.bounds ≡ b.bounds = ap bounds_in same in
      λ i. Some (record { null_count = n i; bounds = m i })
  one_statistics true ts None b once h x k y = absurd h
  one_statistics true ts (Some a) None once h x k y = absurd k
  one_statistics false ts None None once h x k y = refl
  one_statistics false ts (Some a) b once h x k y = absurd h
  one_statistics false ts None (Some b) once h x k y = absurd k
