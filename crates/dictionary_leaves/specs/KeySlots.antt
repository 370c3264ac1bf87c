-- The keys of a dictionary by the slots that are read of its keys' column (Arrow columnar format, "Dictionary-encoded Layout").
use Rattle.std.specs.Prelude.{◌≡◌, ℕ, ℤ, pos, ◌<◌, Bool, true, false, Some, List, [], ◌∷◌, length, slice_index_or}
use Rattle.columns_slots.specs.Tree.{Mask}
use Rattle.shredding.specs.Slot.{Slot, value, number}

-- ---- one key

-- A key as an array has it and as it is loaded, and whether it is the number of one of so many entries.
abbrev pub IsKeyBit : ℕ → ℤ → ℤ → Bool → Type 0
IsKeyBit n kept loaded true = (i : ℕ) × (i < n) × (kept ≡ pos i) × (loaded ≡ pos i)
IsKeyBit n kept loaded false = (i : ℕ) → i < n → loaded ≡ pos i → ⊥

-- of a slot that may be null
abbrev pub IsMaskedBit : ℕ → Bool → ℤ → ℤ → Bool → Type 0
IsMaskedBit n is_there kept loaded true = (is_there ≡ true) × IsKeyBit n kept loaded true
IsMaskedBit n is_there kept loaded false = is_there ≡ true → IsKeyBit n kept loaded false

-- ---- all keys

-- A slot, whether a key is kept for it, and the key: one is kept exactly where the slot numbers one of so many entries.
abbrev pub IsKeyOf : ℕ → Slot → Bool → ℤ → Type 0
IsKeyOf n s true key = (i : ℕ) × (i < n) × (key ≡ pos i) × (s ≡ value (number (pos i)))
IsKeyOf n s false key = (i : ℕ) → i < n → s ≡ value (number (pos i)) → ⊥

-- one for each slot
abbrev pub AreKeysOf : ℕ → List Slot → List Bool → List ℤ → Type 0
AreKeysOf n [] [] [] = Unit {0}
AreKeysOf n (s ∷ ss) (b ∷ bits) (key ∷ keys) = IsKeyOf n s b key × AreKeysOf n ss bits keys
AreKeysOf n _ _ _ = ⊥

-- The keys and their mask keep those of the slots that number one of so many entries. The others are null.
pub record KeepKeys (n : ℕ) (slots : List Slot) (m : Mask) (keys : List ℤ) : Type 0 where
  pub bits : List Bool
  pub mask : m ≡ Some bits
  pub are : AreKeysOf n slots bits keys

-- ---- numbers on the way to an array

-- bits for so many numbers from the front on: of each whether it is kept as a key
pub record AreMaskedTo (k n : ℕ) (mask : List Bool) (kept loaded : List ℤ) (bits : List Bool) : Type 0 where
  pub count : length bits ≡ k
  pub each : (i : ℕ) → i < k → IsMaskedBit n (slice_index_or mask i false) (slice_index_or kept i (pos 0)) (slice_index_or loaded i (pos 0)) (slice_index_or bits i false)
