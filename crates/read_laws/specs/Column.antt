-- The column that a state and the slots of its leaf stand for, and what pairs make of it.
use Rattle.std.specs.Prelude.{◌≡◌, ◌⊎◌, ℕ, ◌+◌, ◌*◌, ◌<◌, ◌≤◌, Bool, false, Option, List, [], ◌∷◌, ◌++◌, map, length, slice_index_or}
use Rattle.shredding.specs.Slot.{Value, Slot, null}
use Rattle.shredding.specs.Shred.{Triple, single, column, max_repetition, max_definition}
use Rattle.shredding.specs.Local.{inside}
use Rattle.read_laws.specs.State.{Kept, kept_slots, kept_way, leaf_count, StateFits}
use Rattle.read_laws.specs.Step.{bit, step, top_level, leaf_nullable, leaf_pushes, way_nullable, Continues, Ended, LeafGives}

abbrev pub kept_column : (ℕ → Slot) → List Kept → List Triple
kept_column leaf ks = column (kept_way ks) (kept_slots leaf ks)

-- the pair begins a row or goes on with the last one
abbrev pub MayCome : ℕ → ℕ → List Kept → Type 0
MayCome rep level ks = (rep ≡ 0) ⊎ ((0 < rep) × Continues rep level 0 0 ks)

pub record IsExtended (leaf : ℕ → Slot) (rep level : ℕ) (ks : List Kept) (o : Option Value) : Type 0 where
  pub fits : StateFits (step 1 rep level false 0 0 ks)
  pub column : kept_column leaf (step 1 rep level false 0 0 ks) ≡ kept_column leaf ks ++ single rep level o

-- a pair that may come is appended to the column
abbrev pub PairsExtendColumns : Type 0
PairsExtendColumns =
    (leaf : ℕ → Slot) (rep level : ℕ) (ks : List Kept) (o : Option Value) →
    StateFits ks → level ≤ top_level 0 ks → MayCome rep level ks → LeafGives (leaf_nullable ks) level (top_level 0 ks) (leaf (leaf_count ks)) o →
    IsExtended leaf rep level ks o

-- the slot at a place of a leaf's slots, and null past the end
abbrev pub slot_of : List Slot → ℕ → Slot
slot_of slots i = slice_index_or slots i null

-- ---- stretches of equal pairs

abbrev pub triple : ℕ → ℕ → Option Value → Triple
triple rep level o = record { repetition = rep; definition = level; value = o }

-- what the pairs of a stretch give at the leaf's next slots, where each pushes so many of them
abbrev pub GivesAll : Bool → ℕ → ℕ → (ℕ → Slot) → ℕ → ℕ → List (Option Value) → Type 0
GivesAll n level top leaf place by [] = Unit {0}
GivesAll n level top leaf place by (o ∷ os) = LeafGives n level top (leaf place) o × GivesAll n level top leaf (place + by) by os

-- The pair may follow one of definition level `before`: it begins a row, or both lie inside the list that it repeats in.
abbrev pub ComesAfter : ℕ → ℕ → ℕ → List Kept → Type 0
ComesAfter before rep level ks = (rep ≡ 0) ⊎ (Ended before 0 ks × (0 < rep) × (rep ≤ max_repetition (kept_way ks)) × (inside (kept_way ks) rep ≤ before) × (inside (kept_way ks) rep ≤ level))

pub record IsStretched (leaf : ℕ → Slot) (m rep level : ℕ) (ks : List Kept) (os : List (Option Value)) : Type 0 where
  pub fits : StateFits (step m rep level false 0 0 ks)
  pub ended : 0 < m → Ended level 0 (step m rep level false 0 0 ks)
  pub column : kept_column leaf (step m rep level false 0 0 ks) ≡ kept_column leaf ks ++ map (triple rep level) os

-- a stretch of pairs that may come is appended to the column
abbrev pub StretchesExtendColumns : Type 0
StretchesExtendColumns =
    (leaf : ℕ → Slot) (before rep level : ℕ) (ks : List Kept) (os : List (Option Value)) →
    StateFits ks → level ≤ max_definition (kept_way ks) → ComesAfter before rep level ks →
    GivesAll (way_nullable (kept_way ks)) level (max_definition (kept_way ks)) leaf (leaf_count ks) (bit (leaf_pushes rep level false 0 0 (kept_way ks))) os →
    IsStretched leaf (length os) rep level ks os

-- the leaf grows with each pair that pushes to it
abbrev pub LeavesGrow : Type 0
LeavesGrow = (m rep level : ℕ) (ks : List Kept) → StateFits ks → leaf_count (step m rep level false 0 0 ks) ≡ leaf_count ks + m * bit (leaf_pushes rep level false 0 0 (kept_way ks))
