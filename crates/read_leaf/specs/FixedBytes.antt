-- Byte strings of one size, and what is decoded of them (Parquet format, Encodings, "Plain"; Arrow columnar format, "Fixed-Size Primitive Layout").
use Rattle.std.specs.Prelude.{◌≡◌, refl, ℕ, Bool, true, false, Some, List, [], ◌∷◌, length}
use Rattle.shredding.specs.Slot.{bytes, Slot, null, value}
use Rattle.columns_slots.specs.Bytes.{chunks_values}
use Rattle.read_walk.specs.Values.{Stored}
use Rattle.read_leaf.specs.Fixed.{value_slots}

-- each string is itself the value
abbrev pub loaded_bytes : List ℕ → Stored
loaded_bytes s = Some (bytes s)

-- strings of so many bytes and which of them are there, as slots
abbrev pub chunk_slots : ℕ → List ℕ → List Bool → List Slot
chunk_slots size content bits = value_slots (chunks_values size (length bits) content) bits

-- two strings of two bytes, of which the first is null
worked : chunk_slots 2 (0 ∷ 0 ∷ 7 ∷ 8 ∷ []) (false ∷ true ∷ []) ≡ null ∷ value (bytes (7 ∷ 8 ∷ [])) ∷ []
worked = refl
