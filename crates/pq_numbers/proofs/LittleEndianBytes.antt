-- Bytes back to a number.
use Rattle.std.proofs.Common.{◌≡◌, ℕ, ◌^◌, ◌<◌, arith}
use Rattle.std.specs.Int.{w32, w64, to_le_bytes}
use Rattle.pq_numbers.specs.LittleEndian.{BytesSpellNumbers}
use Rattle.pq_numbers.specs.Texts.{number_of}

pub four_bytes : (n : ℕ) → n < 2 ^ 32 → number_of (to_le_bytes w32 n) ≡ n
four_bytes n h = omega (arith, h)

pub eight_bytes : (n : ℕ) → n < 2 ^ 64 → number_of (to_le_bytes w64 n) ≡ n
eight_bytes n h = omega (arith, h)

pub bytes_spell : BytesSpellNumbers
bytes_spell = record { four = four_bytes; eight = eight_bytes }
