-- Byte strings that lie one behind the other: between offsets, or each of the same size
-- (Arrow columnar format, "Variable-size Binary Layout" and "Fixed-Size Primitive Layout").
use Rattle.std.specs.Prelude.{ℕ, zero, suc, ◌-◌, List, [], ◌∷◌, map, take, drop}
use Rattle.shredding.specs.Slot.{Value, bytes}

-- the bytes between an offset and the next, for each offset but the last
abbrev pub pieces : List ℕ → List ℕ → List (List ℕ)
pieces [] bs = []
pieces (o ∷ []) bs = []
pieces (o ∷ p ∷ os) bs = take (p - o) (drop o bs) ∷ pieces (p ∷ os) bs

-- so many strings of a width
abbrev pub chunks : ℕ → ℕ → List ℕ → List (List ℕ)
chunks width zero bs = []
chunks width (suc count) bs = take width bs ∷ chunks width count (drop width bs)

-- as values of a leaf
abbrev pub pieces_values : List ℕ → List ℕ → List Value
pieces_values os bs = map bytes (pieces os bs)

abbrev pub chunks_values : ℕ → ℕ → List ℕ → List Value
chunks_values width count bs = map bytes (chunks width count bs)
