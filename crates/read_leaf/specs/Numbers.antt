-- Plain numbers of fixed size, and what is decoded of them (Parquet format, Encodings, "Plain").
use Rattle.std.specs.Prelude.{◌≡◌, ℕ, zero, suc, ◌*◌, ◌/◌, ◌-◌, ◌^◌, ◌<◌, nat_lt, ℤ, pos, negsuc, Bool, true, false, Option, Some, None, option_map, List, [], ◌∷◌, ◌++◌, map, length, take, drop, if◌then◌else◌}
use Rattle.std.specs.Int.{Width, cast_unsigned}
use Rattle.shredding.specs.Slot.{number, Slot, null, value}
use Rattle.read_walk.specs.Values.{Stored, ones, spread}

-- the first n numbers of so many bytes each
abbrev pub plain_numbers : (List ℕ → ℤ) → ℕ → ℕ → List ℕ → List ℤ
plain_numbers spelled size zero bytes = []
plain_numbers spelled size (suc n) bytes = spelled (take size bytes) ∷ plain_numbers spelled size n (drop size bytes)

-- all that the bytes hold; less than a number's bytes at the end hold none
abbrev pub all_numbers : (List ℕ → ℤ) → ℕ → List ℕ → List ℤ
all_numbers spelled size bytes = plain_numbers spelled size (length bytes / size) bytes

-- a stored number as a value of the leaf
abbrev pub loaded_value : (ℤ → Option ℤ) → ℤ → Stored
loaded_value loaded z = option_map number (loaded z)

abbrev pub stored_numbers : (ℤ → Option ℤ) → (List ℕ → ℤ) → ℕ → List ℕ → List Stored
stored_numbers loaded spelled size bytes = map (loaded_value loaded) (all_numbers spelled size bytes)

-- ---- the ranges of the page table (Parquet format, LogicalTypes)

abbrev pub has_bits : ℕ → ℤ → Bool
has_bits w (pos n) = nat_lt n (2 ^ (w - 1))
has_bits w (negsuc n) = nat_lt n (2 ^ (w - 1))

-- a signed number of w bits, in two's complement
abbrev pub as_signed : ℕ → ℤ → Option ℤ
as_signed w z = if has_bits w z then Some z else None

-- a number without sign of w bits, stored by the low bits of a number of the width p
abbrev pub as_unsigned : Width → ℕ → ℤ → Option ℤ
as_unsigned p w z = if nat_lt (cast_unsigned p z) (2 ^ w) then Some (pos (cast_unsigned p z)) else None

-- numbers and which of them are there, as slots
abbrev pub number_slots : List ℤ → List Bool → List Slot
number_slots (z ∷ zs) (b ∷ bs) = (if b then value (number z) else null) ∷ number_slots zs bs
number_slots _ _ = []

-- numbers taken from the bytes: each of n is one of the leaf, and they stand behind those before
pub record TookNumbers (loaded : ℤ → Option ℤ) (spelled : List ℕ → ℤ) (size n : ℕ) (bytes rest : List ℕ) (old new : List ℤ) : Type 0 where
  pub numbers : List ℤ
  pub count : length numbers ≡ n
  pub are : map loaded (plain_numbers spelled size n bytes) ≡ map Some numbers
  pub pushed : new ≡ old ++ numbers
  pub behind : rest ≡ drop (size * n) bytes

-- one of the next n numbers is none of the leaf
pub record OneIsOutside (loaded : ℤ → Option ℤ) (spelled : List ℕ → ℤ) (size n : ℕ) (bytes : List ℕ) : Type 0 where
  pub numbers : List ℤ
  pub others : List (Option ℤ)
  pub are : map loaded (plain_numbers spelled size n bytes) ≡ map Some numbers ++ (None ∷ others)
  pub within : length numbers < n

-- the next number taken from the bytes where it is there, else none
abbrev pub TookOne : (ℤ → Option ℤ) → (List ℕ → ℤ) → ℕ → Bool → List ℕ → List ℕ → ℤ → Type 0
TookOne loaded spelled size true bytes rest z = (loaded (spelled (take size bytes)) ≡ Some z) × (rest ≡ drop size bytes)
TookOne loaded spelled size false bytes rest z = rest ≡ bytes

-- a slot for each bit: the next number taken from the bytes where it is set
pub record TookMixed (loaded : ℤ → Option ℤ) (spelled : List ℕ → ℤ) (size : ℕ) (bits : List Bool) (bytes rest : List ℕ) (old new : List ℤ) : Type 0 where
  pub numbers : List ℤ
  pub took : TookNumbers loaded spelled size (ones bits) bytes rest [] numbers
  pub among : List ℤ
  pub even : length among ≡ length bits
  pub stand : number_slots among bits ≡ spread bits (map number numbers)
  pub pushed : new ≡ old ++ among
