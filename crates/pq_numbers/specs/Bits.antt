-- Numbers of w bits each, packed lowest bit first (Parquet format, Encodings, "RLE / Bit-Packing Hybrid"):
-- the digits in base 2 ^ w of the number that the bytes spell.
use Rattle.std.specs.Prelude.{ℕ, zero, suc, ◌+◌, ◌*◌, ◌/◌, ◌%◌, ◌^◌, ◌<◌, ◌≤◌, List, [], ◌∷◌}
use Rattle.pq_numbers.specs.Texts.{number_of}

-- the n lowest digits of m
abbrev pub digits_of : ℕ → ℕ → ℕ → List ℕ
digits_of base zero m = []
digits_of base (suc n) m = m % base ∷ digits_of base n (m / base)

-- the first n numbers that the bytes hold
abbrev pub unpacked : ℕ → ℕ → List ℕ → List ℕ
unpacked w n bytes = digits_of (2 ^ w) n (number_of bytes)

-- the number at a place
abbrev pub packed_number : ℕ → ℕ → List ℕ → ℕ
packed_number w i bytes = number_of bytes / 2 ^ (w * i) % 2 ^ w

-- as many bytes as hold so many bits
abbrev pub bytes_for : ℕ → ℕ
bytes_for bits = (bits + 7) / 8

-- the least number of bits that holds the number
pub record IsWidth (max w : ℕ) : Type 0 where
  pub holds : max < 2 ^ w
  pub least : (v : ℕ) → max < 2 ^ v → w ≤ v
