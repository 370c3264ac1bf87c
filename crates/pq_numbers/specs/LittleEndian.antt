-- Numbers of fixed size as bytes, lowest first (Parquet format, Encodings, "Plain").
use Rattle.std.specs.Prelude.{◌≡◌, ℕ, ◌^◌, ◌<◌}
use Rattle.std.specs.Int.{w32, w64, to_le_bytes}
use Rattle.pq_numbers.specs.Texts.{number_of}

-- the bytes of a number spell it
pub record BytesSpellNumbers : Type 0 where
  pub four : (n : ℕ) → n < 2 ^ 32 → number_of (to_le_bytes w32 n) ≡ n
  pub eight : (n : ℕ) → n < 2 ^ 64 → number_of (to_le_bytes w64 n) ≡ n
