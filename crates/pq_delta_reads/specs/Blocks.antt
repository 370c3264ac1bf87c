-- Numbers, 32 at once.
use Rattle.std.specs.Prelude.{◌≡◌, ◌⊎◌, ℕ, ◌<◌, ◌^◌, ℤ, pos, List, [], ◌∷◌, ◌++◌, length, map}
use Rattle.std.specs.Int.{Width, w32, w64, cast_signed}
use Rattle.shredding.specs.Slot.{Value, number}
use Rattle.pq_numbers.specs.Bits.{unpacked}
use Rattle.pq_runs.specs.Delta.{wrapped}
use Rattle.pq_delta_reads.specs.Sections.{TakesString}

-- the first 32 packed numbers of so many bits
unfoldable pub block_of : ℕ → List ℕ → List ℕ
block_of w bytes = unpacked w 32 bytes

-- numbers of 64 bits, with a sign
abbrev pub signed : List ℕ → List ℤ
signed ns = map (cast_signed w64) ns

-- as values of a column of so many bits
abbrev pub values_of : Width → List ℕ → List Value
values_of v ns = map number (map (wrapped v) (signed ns))

-- strings of these lengths, one behind the other
abbrev pub TakesStrings : List ℤ → List ℕ → List ℕ → List ℕ → List ℕ → Type 0
TakesStrings [] front rest before after = (rest ≡ front) × (after ≡ before)
TakesStrings (z ∷ zs) front rest before after =
    (size : ℕ) × (wrapped w32 z ≡ pos size) × (size < 2 ^ 31) × ((mid : List ℕ) × (between : List ℕ) × TakesString size front mid before between × TakesStrings zs mid rest between after)

-- one of these lengths is negative, or past the end
pub record StopsStrings (zs : List ℤ) (front before : List ℕ) : Type 0 where
  pub done : List ℤ
  pub z : ℤ
  pub others : List ℤ
  pub parts : zs ≡ done ++ z ∷ others
  pub rest : List ℕ
  pub after : List ℕ
  pub takes : TakesStrings done front rest before after
  pub cause : ((n : ℕ) → wrapped w32 z ≡ pos n → ⊥) ⊎ ((n : ℕ) × (wrapped w32 z ≡ pos n) × (length rest < n))
