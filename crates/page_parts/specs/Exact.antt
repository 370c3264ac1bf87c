-- Iterators that give so many items.
use Rattle.std.specs.Prelude.{◌≡◌, ℕ, zero, suc, ◌+◌, Option, Some, None}

-- it may be asked, and gives an item, so many times
abbrev pub GivesSoMany : {I A : Type 0} → (I → Type 0) → (I → Option A → I → Type 0) → ℕ → I → Type 0
GivesSoMany can gives zero i = Unit {0}
GivesSoMany {I} {A} can gives (suc n) i = can i × ((j : I) → gives i None j → ⊥) × ((item : A) (j : I) → gives i (Some item) j → GivesSoMany can gives n j)

-- nothing where none is left, and else an item of the iterator within
abbrev pub GivesOfSo : {I A : Type 0} → (I → Option A → I → Type 0) → ℕ → I → Option A → ℕ → I → Type 0
GivesOfSo gives left i None left' j = (left ≡ 0) × (left' ≡ 0) × (j ≡ i)
GivesOfSo gives left i (Some item) left' j = gives i (Some item) j × (left ≡ left' + 1)
