-- Plain values of a fixed number of bytes, and what is decoded of them (Parquet format, Encodings, "Plain"; LogicalTypes, "DECIMAL" and "INTERVAL").
use Rattle.std.specs.Prelude.{◌≡◌, refl, ℕ, ◌/◌, ◌==◌, ◌&&◌, Bool, true, false, Some, None, List, [], ◌∷◌, ◌++◌, map, length, take, drop, nat_le, if◌then◌else◌}
use Rattle.shredding.specs.Slot.{Value, number, bytes, Slot, null, value}
use Rattle.columns_core.specs.Tree.{TypeTree, t_interval, t_decimal}
use Rattle.columns_slots.specs.Bytes.{chunks}
use Rattle.pq_files.specs.Stored.{signed_big_endian}
use Rattle.read_walk.specs.Values.{Stored, ones, spread}

-- each value of so many bytes, as it is loaded; less than a value's bytes at the end hold none
abbrev pub stored_fixed : (List ℕ → Stored) → ℕ → List ℕ → List Stored
stored_fixed loaded size text = map loaded (chunks size (length text / size) text)

-- the types whose values are stored as bytes of one size, though arrays have them as numbers
abbrev pub is_fixed : TypeTree → Bool
is_fixed (t_interval unit) = true
is_fixed (t_decimal precision scale) = true
is_fixed t = false

-- ---- what is loaded

abbrev pub are_zeros : List ℕ → Bool
are_zeros [] = true
are_zeros (b ∷ bs) = (b == 0) && are_zeros bs

-- an interval of months: its days and milliseconds are zero
abbrev pub loaded_months : List ℕ → Stored
loaded_months s = if (length s == 12) && are_zeros (drop 4 s) then Some (bytes s) else None

-- an interval of days and milliseconds: its months are zero
abbrev pub loaded_days : List ℕ → Stored
loaded_days s = if (length s == 12) && are_zeros (take 4 s) then Some (bytes s) else None

-- a decimal of at most 128 bits, the highest byte first
abbrev pub loaded_decimal : List ℕ → Stored
loaded_decimal s = if nat_le (length s) 16 then Some (number (signed_big_endian s)) else None

-- fourteen months; with a day more it is no interval of months
fourteen : loaded_months (14 ∷ 0 ∷ 0 ∷ 0 ∷ 0 ∷ 0 ∷ 0 ∷ 0 ∷ 0 ∷ 0 ∷ 0 ∷ 0 ∷ []) ≡ Some (bytes (14 ∷ 0 ∷ 0 ∷ 0 ∷ 0 ∷ 0 ∷ 0 ∷ 0 ∷ 0 ∷ 0 ∷ 0 ∷ 0 ∷ []))
fourteen = refl

day_more : loaded_months (14 ∷ 0 ∷ 0 ∷ 0 ∷ 1 ∷ 0 ∷ 0 ∷ 0 ∷ 0 ∷ 0 ∷ 0 ∷ 0 ∷ []) ≡ None
day_more = refl

-- ---- what is decoded

-- values and which of them are there, as slots
abbrev pub value_slots : List Value → List Bool → List Slot
value_slots (v ∷ vs) (b ∷ bs) = (if b then value v else null) ∷ value_slots vs bs
value_slots _ _ = []

-- A slot for each bit: the next value that stands in the bytes where it is set. What the bytes hold is told by `left`.
pub record TookValues (left : List ℕ → List Stored) (bits : List Bool) (text rest : List ℕ) (old new : List Value) : Type 0 where
  pub values : List Value
  pub count : length values ≡ ones bits
  pub taken : left text ≡ map Some values ++ left rest
  pub among : List Value
  pub even : length among ≡ length bits
  pub stand : value_slots among bits ≡ spread bits values
  pub pushed : new ≡ old ++ among
