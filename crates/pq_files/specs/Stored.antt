-- What a leaf's value is in a page: its stored value (Parquet format, LogicalTypes; Arrow columnar format for the leaf types).
use Rattle.std.specs.Prelude.{◌≡◌, ◌⊎◌, ℕ, ◌+◌, ◌*◌, ◌^◌, ◌<◌, ◌≤◌, ℤ, pos, ◌-ℤ◌, List, length, take, drop, replicate, IsUtf8, Option, Some, None, fold, if◌then◌else◌, nat_lt}
use Rattle.std.specs.Int.{w32, w64, cast_signed}
use Rattle.std.specs.List.{AllZip}
use Rattle.shredding.specs.Slot.{Value, truth, number, bytes}
use Rattle.shredding.specs.Shape.{LeafType, truths, text, binary, signed, unsigned, fixed_bytes, decimal, months, days, Fits}
use Rattle.shredding.specs.Shred.{Triple}
use Rattle.pq_tree.specs.Physical.{Physical, boolean, int32, int64, byte_array, fixed}

-- highest byte first, in two's complement
abbrev pub big_endian : List ℕ → ℕ
big_endian s = fold (λ n b. 256 * n + b) 0 s

abbrev pub signed_big_endian : List ℕ → ℤ
signed_big_endian s = if nat_lt (2 * big_endian s) (256 ^ length s) then pos (big_endian s) else (pos (big_endian s) -ℤ pos (256 ^ length s))

-- the page table: a value of the type, and what is stored for it under the physical type
abbrev pub IsStored : LeafType → Physical → Value → Value → Type 0
IsStored truths boolean (truth b) s = s ≡ truth b
IsStored (signed w) int32 (number z) s = (w ≤ 32) × Fits w z × (s ≡ number z)
IsStored (signed w) int64 (number z) s = (w ≡ 64) × Fits w z × (s ≡ number z)
IsStored (unsigned w) int32 (number (pos n)) s = (w ≤ 32) × (n < 2 ^ w) × (s ≡ number (cast_signed w32 n))
IsStored (unsigned w) int64 (number (pos n)) s = ((w ≡ 32) ⊎ (w ≡ 64)) × (n < 2 ^ w) × (s ≡ number (cast_signed w64 n))
IsStored text byte_array (bytes t) s = IsUtf8 t × (s ≡ bytes t)
IsStored binary byte_array (bytes t) s = s ≡ bytes t
IsStored (fixed_bytes n) (fixed m) (bytes t) s = (n ≡ m) × (length t ≡ n) × (s ≡ bytes t)
IsStored decimal int32 (number z) s = Fits 32 z × (s ≡ number z)
IsStored decimal int64 (number z) s = Fits 64 z × (s ≡ number z)
IsStored decimal (fixed n) (number z) (bytes t) = (1 ≤ n) × (n ≤ 16) × (length t ≡ n) × (z ≡ signed_big_endian t)
IsStored months (fixed n) (bytes t) s = (n ≡ 12) × (length t ≡ 12) × (drop 4 t ≡ replicate 8 0) × (s ≡ bytes t)
IsStored days (fixed n) (bytes t) s = (n ≡ 12) × (length t ≡ 12) × (take 4 t ≡ replicate 4 0) × (s ≡ bytes t)
IsStored _ _ _ _ = ⊥

-- the decimals that a physical type holds: numbers of 32 or 64 bits, or of so many bytes, in two's complement
abbrev pub HoldsDecimal : Physical → ℤ → Type 0
HoldsDecimal int32 z = Fits 32 z
HoldsDecimal int64 z = Fits 64 z
HoldsDecimal (fixed n) z = (1 ≤ n) × (n ≤ 16) × Fits (8 * n) z
HoldsDecimal p z = ⊥

-- with each value replaced by its stored value
abbrev pub IsStoredOption : LeafType → Physical → Option Value → Option Value → Type 0
IsStoredOption t p None None = Unit {0}
IsStoredOption t p (Some v) (Some s) = IsStored t p v s
IsStoredOption t p _ _ = ⊥

pub record IsStoredTriple (t : LeafType) (p : Physical) (x y : Triple) : Type 0 where
  pub repetition : y.repetition ≡ x.repetition
  pub definition : y.definition ≡ x.definition
  pub «value» : IsStoredOption t p x.value y.value

abbrev pub AreStored : LeafType → Physical → List Triple → List Triple → Type 0
AreStored t p xs ys = AllZip (IsStoredTriple t p) xs ys
