-- What a constructor tests is what makes its array sound.
use Rattle.std.proofs.Common.{Bool, true, sym, true≢false, ◌≡◌, ℕ, zero, suc, ◌+◌, ◌≤◌, ◌<◌, List, [], ◌∷◌, length, map, get_or, All, arith}
use Rattle.columns_core.specs.Rising.{RisesFrom, IsRising}
use Rattle.shredding.specs.Slot.{truth}
use Rattle.shredding.specs.Shape.{truths, IsInRange}
use Rattle.columns_core.specs.Shapes.{leaf_type}
use Rattle.columns_core.specs.Tree.{TypeTree, t_boolean}
use Rattle.columns_slots.specs.Types.{is_boolean}
use Rattle.columns_slots.specs.Slots.{AreUpTo, IsPlaces}

up_from : (o : ℕ) (os : List ℕ) (u n : ℕ) → RisesFrom o os → length os ≡ n → get_or (o ∷ os) n 0 ≤ u → AreUpTo o os u
up_from o [] u zero r l h = h
up_from o [] u (suc n) r l h = absurd (omega (arith, l))
up_from o (p ∷ os) u zero r l h = absurd (omega (arith, l))
up_from o (p ∷ os) u (suc n) r l h = (r.0, up_from p os u n r.1 (omega (arith, l)) h)

pub places_made : (os : List ℕ) (u n : ℕ) → IsRising os → length os ≡ n + 1 → get_or os n 0 ≤ u → IsPlaces os u
places_made [] u n r l h = absurd r
places_made (o ∷ os) u n r l h = up_from o os u n r (omega (arith, l)) h

last_up : (o : ℕ) (os : List ℕ) (u n : ℕ) → AreUpTo o os u → length os ≡ n → get_or (o ∷ os) n 0 ≤ u
last_up o [] u zero h l = h
last_up o [] u (suc n) h l = absurd (omega (arith, l))
last_up o (p ∷ os) u zero h l = absurd (omega (arith, l))
last_up o (p ∷ os) u (suc n) h l = last_up p os u n h.1 (omega (arith, l))

pub places_last : (os : List ℕ) (u n : ℕ) → IsPlaces os u → length os ≡ n + 1 → get_or os n 0 ≤ u
places_last [] u n h l = absurd h
places_last (o ∷ os) u n h l = last_up o os u n h (omega (arith, l))

all_map_at : {A B : Type 0} (P : B → Type 0) (f : A → B) (xs : List A) → ((x : A) → P (f x)) → (k : ℕ) (d : B) → k < length (map f xs) → P (get_or (map f xs) k d)
all_map_at P f [] h k d l = absurd (omega (arith, l))
all_map_at P f (x ∷ xs) h zero d l = h x
all_map_at P f (x ∷ xs) h (suc k) d l = all_map_at P f xs h k d (omega (arith, l))

pub all_map : {A B : Type 0} (P : B → Type 0) (f : A → B) (xs : List A) → ((x : A) → P (f x)) → All P (map f xs)
all_map P f xs h = λ k d l. all_map_at P f xs h k d l

pub truths_typed : (t : TypeTree) (xs : List Bool) → is_boolean t ≡ true → All (IsInRange (leaf_type t)) (map truth xs)
truths_typed t_boolean xs e = all_map (IsInRange truths) truth xs (λ x. tt)
truths_typed t xs e = absurd (true≢false (sym e))
