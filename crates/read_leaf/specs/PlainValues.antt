-- What the decoders read is what the plain encoding spells (Parquet format, Encodings, "Plain").
use Rattle.std.specs.Prelude.{◌≡◌, ◌↔◌, ℕ, ◌+◌, ◌*◌, ℤ, List, map, length, take}
use Rattle.std.specs.Int.{w32, w64, cast_signed}
use Rattle.shredding.specs.Slot.{number, bytes}
use Rattle.pq_numbers.specs.Texts.{number_of, Begins}
use Rattle.pq_tree.specs.Physical.{Physical, int32, int64, byte_array}
use Rattle.pq_files.specs.Plain.{IsPlain}
use Rattle.read_leaf.specs.Numbers.{all_numbers}
use Rattle.read_leaf.specs.Strings.{all_strings, total_bytes}

-- the number that four or eight bytes spell, the lowest first, in two's complement
abbrev pub spelled_32 : List ℕ → ℤ
spelled_32 text = cast_signed w32 (number_of text)

abbrev pub spelled_64 : List ℕ → ℤ
spelled_64 text = cast_signed w64 (number_of text)

-- a text is the plain spelling of numbers exactly where they are all that is read, and no byte is left
abbrev pub AreNumbersRead : Physical → (List ℕ → ℤ) → ℕ → Type 0
AreNumbersRead p spelled size =
    (text : List ℕ) (zs : List ℤ) → IsPlain p text (map number zs) ↔ ((length text ≡ size * length zs) × (all_numbers spelled size text ≡ zs))

abbrev pub NumbersAreRead : Type 0
NumbersAreRead = AreNumbersRead int32 spelled_32 4 × AreNumbersRead int64 spelled_64 8

-- a text is the plain spelling of byte strings exactly where they are all that is read, and no byte is left
abbrev pub StringsAreRead : Type 0
StringsAreRead =
    (text : List ℕ) (ss : List (List ℕ)) → IsPlain byte_array text (map bytes ss) ↔ ((length text ≡ 4 * length ss + total_bytes ss) × (all_strings text ≡ ss))

-- bytes begin with the plain spelling of numbers exactly where they are the first that are read
abbrev pub AreFirstRead : Physical → (List ℕ → ℤ) → ℕ → Type 0
AreFirstRead p spelled size = (text : List ℕ) (zs : List ℤ) → Begins (IsPlain p) text (map number zs) ↔ (take (length zs) (all_numbers spelled size text) ≡ zs)

-- the same of numbers of four and of eight bytes, and of byte strings
pub record FrontsAreRead : Type 0 where
  pub small : AreFirstRead int32 spelled_32 4
  pub wide : AreFirstRead int64 spelled_64 8
  pub strings : (text : List ℕ) (ss : List (List ℕ)) → Begins (IsPlain byte_array) text (map bytes ss) ↔ (take (length ss) (all_strings text) ≡ ss)
