-- What the definition levels of a block call for at the leaf.
use Rattle.std.specs.Prelude.{◌≡◌, ℕ, ◌+◌, ◌≤◌, Bool, cond, nat_le, nat_eq, Option, Some, None, List, [], ◌∷◌, ◌++◌, map, length}
use Rattle.shredding.specs.Slot.{Value, Slot, null, value}
use Rattle.read_laws.specs.Step.{bit}
use Rattle.read_laws.specs.Column.{slot_of}
use Rattle.read_walk.specs.Values.{Stored, bytes_of, bytes_in}

-- the values that pairs give
abbrev pub given : List (Option Value) → List Value
given [] = []
given (None ∷ os) = given os
given (Some v ∷ os) = v ∷ given os

-- a value exactly at the top, and a null slot from the floor on
abbrev pub LeafIs : ℕ → ℕ → ℕ → Slot → Option Value → Type 0
LeafIs floor top d s None = (d ≡ top → ⊥) × (floor ≤ d → s ≡ null)
LeafIs floor top d s (Some v) = (d ≡ top) × (s ≡ value v)

-- what each pair gives, at the leaf's next slot, which a pair takes that reaches the floor
abbrev pub Each : ℕ → ℕ → (ℕ → Slot) → ℕ → List ℕ → List (Option Value) → Type 0
Each floor top leaf place [] [] = Unit {0}
Each floor top leaf place (d ∷ ds) (o ∷ os) = LeafIs floor top d (leaf place) o × Each floor top leaf (place + bit (nat_le floor d)) ds os
Each floor top leaf place _ _ = ⊥

-- how many slots pairs of these levels take
abbrev pub grows : ℕ → List ℕ → ℕ
grows floor [] = 0
grows floor (d ∷ ds) = bit (nat_le floor d) + grows floor ds

-- how many values levels call for
abbrev pub called : ℕ → List ℕ → ℕ
called top [] = 0
called top (d ∷ ds) = bit (nat_eq d top) + called top ds

-- a bit for each level from the floor on, set at the top
abbrev pub mixed : ℕ → ℕ → List ℕ → List Bool
mixed floor top [] = []
mixed floor top (d ∷ ds) = cond (nat_le floor d) (nat_eq d top ∷ mixed floor top ds) (mixed floor top ds)

-- levels decoded: a value for each at the top, a slot for each from the floor on
pub record Decoded (floor top : ℕ) (defs : List ℕ) (left left' : List Stored) (slots slots' : List Slot) : Type 0 where
  pub gives : List (Option Value)
  pub more : List Slot
  pub pushed : slots' ≡ slots ++ more
  pub each : Each floor top (slot_of slots') (length slots) defs gives
  pub values : left ≡ map Some (given gives) ++ left'
  pub grown : length more ≡ grows floor defs
  pub sized : bytes_in more ≡ bytes_of (given gives)
