-- Numbers of one bit on the way to their bytes.
use Rattle.std.specs.Prelude.{ℕ, ◌+◌, ◌*◌, ◌^◌, ◌<◌, ◌≤◌, List, take}
use Rattle.pq_numbers.specs.Bits.{digits_of}
use Rattle.pq_numbers.specs.Texts.{number_of}

-- the number that the first bytes spell, and above it what is held of the next one
abbrev pub held_number : List ℕ → ℕ → ℕ → ℕ
held_number bytes at held = number_of (take at bytes) + 2 ^ (8 * at) * held

-- the bits of so many bytes, and so many more that are held
abbrev pub held_bits : List ℕ → ℕ → ℕ → ℕ → List ℕ
held_bits bytes at held more = digits_of (2 ^ 1) (8 * at + more) (held_number bytes at held)

-- at most 504 bits, less than eight of which are held
pub record IsHeld (bytes : List ℕ) (at held more : ℕ) : Type 0 where
  pub few : more < 8
  pub small : held < 2 ^ more
  pub room : 8 * at + more ≤ 504
  pub fits : number_of (take at bytes) < 2 ^ (8 * at)
