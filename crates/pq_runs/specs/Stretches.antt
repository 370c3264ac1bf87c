-- How long runs are that repeat what is equal (Parquet format, Encodings, "RLE / Bit-Packing Hybrid": repeated numbers take one run).
use Rattle.std.specs.Prelude.{◌≡◌, ℕ, zero, suc, ◌+◌, ◌-◌, ◌*◌, ◌/◌, ◌^◌, ◌≤◌, ◌==◌, cond, List, [], ◌∷◌, length}

-- the number of stretches of equal numbers that stand side by side
abbrev pub stretches : List ℕ → ℕ
stretches [] = 0
stretches (x ∷ []) = 1
stretches (x ∷ y ∷ ys) = cond (x == y) 0 1 + stretches (y ∷ ys)

-- The text of numbers of w bits has at most 2 w + 19 bytes for each stretch, where one of more than 2^40 numbers counts as several, and one byte
-- more. So numbers that are equal take no more bytes the more they are, up to 2^40.
abbrev pub IsShort : ℕ → List ℕ → List ℕ → Type 0
IsShort w text xs = length text ≤ (2 * w + 19) * (stretches xs + length xs / 2 ^ 40) + 1

-- ---- on the way, in bits

abbrev pub one_if_any : ℕ → ℕ
one_if_any zero = 0
one_if_any (suc n) = 1

-- the most bits of a stretch
abbrev pub stretch_bits : ℕ → ℕ
stretch_bits w = 14 * w + 152

-- so many numbers and those that fill their last group up
abbrev pub filled_up : ℕ → ℕ
filled_up n = (n + 7) / 8 * 8

-- From a state of a writer to a later one, with so many bits more. The numbers that wait to be packed count as whole groups.
abbrev pub Takes : ℕ → List ℕ → List ℕ → List ℕ → List ℕ → ℕ → Type 0
Takes w out block out' block' bits = 8 * length out' + w * filled_up (length block') ≤ 8 * length out + w * filled_up (length block) + bits

-- so many stretches are settled, and if copies wait, they are one more
pub record Spent (w : ℕ) (start out block : List ℕ) (count : ℕ) (xs : List ℕ) : Type 0 where
  pub settled : ℕ
  pub bits : Takes w start [] out block (stretch_bits w * settled)
  pub some : settled + one_if_any count ≤ stretches xs + (length xs - count) / 2 ^ 40
  pub most : count ≤ length xs
  pub none : count ≡ 0 → xs ≡ []
