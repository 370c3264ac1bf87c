-- Places that never fall.
use Rattle.std.specs.Prelude.{◌≡◌, ℕ, ℤ, pos, negsuc, ◌+◌, ◌<◌, ◌≤◌, List, [], ◌∷◌, ◌++◌, Option, sum}
use Rattle.std.specs.Iterator.{Yields, Drains}

abbrev pub whole : ℤ → ℕ
whole (pos n) = n
whole (negsuc n) = 0

abbrev pub IsWhole : ℤ → Type 0
IsWhole (pos n) = Unit {0}
IsWhole (negsuc n) = ⊥

-- none negative, and none below the one before it, the first from a place on
abbrev pub AreFrom : ℕ → List ℤ → Type 0
AreFrom o [] = Unit {0}
AreFrom o (z ∷ zs) = IsWhole z × (o ≤ whole z) × AreFrom (whole z) zs

-- at least one, none negative, none below the one before it
abbrev pub ArePlaces : List ℤ → Type 0
ArePlaces [] = ⊥
ArePlaces (z ∷ zs) = AreFrom 0 (z ∷ zs)

abbrev pub RisesFrom : ℕ → List ℕ → Type 0
RisesFrom o [] = Unit {0}
RisesFrom o (p ∷ os) = (o ≤ p) × RisesFrom p os

-- at least one place, and none below the one before it
abbrev pub IsRising : List ℕ → Type 0
IsRising [] = ⊥
IsRising (o ∷ os) = RisesFrom o os

-- the last place, and 0 where there is none
abbrev pub last_place : List ℕ → ℕ
last_place [] = 0
last_place (o ∷ []) = o
last_place (o ∷ p ∷ os) = last_place (p ∷ os)

-- the ends of ranges of these lengths, one after another from a place on
abbrev pub places_from : ℕ → List ℕ → List ℕ
places_from o [] = []
places_from o (n ∷ ns) = (o + n) ∷ places_from (o + n) ns

-- the offsets grew by ranges of all the lengths that the iterator gave, and the last end is below the limit
abbrev pub GrewBy : {S : Type 0} → (S → Option ℕ → S → Type 0) → S → ℕ → List ℕ → List ℕ → Type 0
GrewBy steps s limit old new = (ns : List ℕ) × Drains steps s ns × (new ≡ old ++ places_from (last_place old) ns) × (last_place old + sum ns < limit)

-- lengths that the iterator gave pass the limit
abbrev pub Passes : {S : Type 0} → (S → Option ℕ → S → Type 0) → S → ℕ → List ℕ → Type 0
Passes {S} steps s limit old = (ns : List ℕ) × (t : S) × Yields steps s ns t × (limit ≤ last_place old + sum ns)
