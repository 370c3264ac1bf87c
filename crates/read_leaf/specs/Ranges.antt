-- What is loaded for a stored value is the page table's value for it (Parquet format, LogicalTypes).
use Rattle.std.specs.Prelude.{◌≡◌, ◌↔◌, ℕ, ◌≤◌, ℤ, pos, true, Option, Some, List}
use Rattle.std.specs.Str.{is_utf8}
use Rattle.std.specs.Int.{w32, w64, cast_unsigned}
use Rattle.shredding.specs.Slot.{Value, number, bytes}
use Rattle.shredding.specs.Shape.{LeafType, signed, unsigned, decimal, text, binary, Fits}
use Rattle.pq_tree.specs.Physical.{Physical, int32, int64, byte_array}
use Rattle.pq_files.specs.Stored.{IsStored}
use Rattle.read_leaf.specs.Numbers.{as_signed, as_unsigned}
use Rattle.read_leaf.specs.Strings.{loaded_string}

-- of the stored numbers of so many bits: a value is loaded for one exactly where the table stores the value so
abbrev pub LoadsStored : (ℤ → Option ℤ) → LeafType → Physical → ℕ → Type 0
LoadsStored loaded t p bits = (z v : ℤ) → Fits bits z → (loaded z ≡ Some v) ↔ IsStored t p (number v) (number z)

-- each way to load numbers
pub record LoadedIsStored : Type 0 where
  pub narrow_signed : (w : ℕ) → w ≤ 32 → LoadsStored (as_signed w) (signed w) int32 32
  pub signed_32 : LoadsStored (λ z. Some z) (signed 32) int32 32
  pub signed_64 : LoadsStored (λ z. Some z) (signed 64) int64 64
  pub narrow_unsigned : (w : ℕ) → w ≤ 32 → LoadsStored (as_unsigned w32 w) (unsigned w) int32 32
  pub unsigned_32 : LoadsStored (λ z. Some (pos (cast_unsigned w32 z))) (unsigned 32) int32 32
  pub wide_unsigned : LoadsStored (as_unsigned w64 32) (unsigned 32) int64 64
  pub unsigned_64 : LoadsStored (λ z. Some (pos (cast_unsigned w64 z))) (unsigned 64) int64 64
  pub decimal_32 : LoadsStored (λ z. Some z) decimal int32 32
  pub decimal_64 : LoadsStored (λ z. Some z) decimal int64 64

-- a byte string is loaded as a value exactly where the table stores the value so: of texts those in UTF-8, of byte strings all
pub record StringsAreStored : Type 0 where
  pub texts : (s : List ℕ) (v : Value) → (loaded_string is_utf8 s ≡ Some v) ↔ IsStored text byte_array v (bytes s)
  pub strings : (s : List ℕ) (v : Value) → (loaded_string (λ s. true) s ≡ Some v) ↔ IsStored binary byte_array v (bytes s)
