-- The plain spelling of stored values (Parquet format, Encodings, "Plain").
use Rattle.std.specs.Prelude.{◌≡◌, ℕ, List, [], ◌∷◌, ◌++◌, length, map, ◌==◌}
use Rattle.std.specs.Int.{w32, w64, cast_signed}
use Rattle.shredding.specs.Slot.{Value, truth, number, bytes}
use Rattle.pq_numbers.specs.Bits.{bytes_for, unpacked}
use Rattle.pq_tree.specs.Physical.{Physical, boolean, int32, int64, byte_array, fixed}
use Rattle.pq_numbers.specs.Texts.{number_of}

-- four bytes with the length, and the bytes
pub record IsPrefixed (text : List ℕ) (s : List ℕ) : Type 0 where
  pub head : List ℕ
  pub four : length head ≡ 4
  pub size : number_of head ≡ length s
  pub parts : text ≡ head ++ s

-- one value
abbrev pub IsOne : Physical → List ℕ → Value → Type 0
IsOne int32 text (number z) = (length text ≡ 4) × (z ≡ cast_signed w32 (number_of text))
IsOne int64 text (number z) = (length text ≡ 8) × (z ≡ cast_signed w64 (number_of text))
IsOne byte_array text (bytes s) = IsPrefixed text s
IsOne (fixed n) text (bytes s) = (length text ≡ n) × (text ≡ s)
IsOne _ text v = ⊥

abbrev pub InARow : Physical → List ℕ → List Value → Type 0
InARow p text [] = text ≡ []
InARow p text (v ∷ vs) = (first : List ℕ) × (others : List ℕ) × IsOne p first v × InARow p others vs × (text ≡ first ++ others)

-- truth values are bits
abbrev pub AreBits : List ℕ → List Value → Type 0
AreBits text vs = (length text ≡ bytes_for (length vs)) × (vs ≡ map (λ n. truth (n == 1)) (unpacked 1 (length vs) text))

abbrev pub IsPlain : Physical → List ℕ → List Value → Type 0
IsPlain boolean text vs = AreBits text vs
IsPlain p text vs = InARow p text vs
