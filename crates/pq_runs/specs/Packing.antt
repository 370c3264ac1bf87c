-- Numbers packed into bytes, on the way.
use Rattle.std.specs.Prelude.{◌≡◌, ℕ, ◌+◌, ◌*◌, ◌^◌, ◌<◌, ◌≤◌, List, length, All}
use Rattle.pq_numbers.specs.Bits.{unpacked, bytes_for}
use Rattle.pq_numbers.specs.Texts.{number_of}
use Rattle.pq_runs.specs.Words.{word_of}

-- of so many bits of a number the bytes that are written, and the bits that are left
pub record HoldsIn (bits held : ℕ) (text : List ℕ) (rest left : ℕ) : Type 0 where
  pub size : 8 * length text + rest ≡ bits
  pub value : number_of text + 2 ^ (8 * length text) * left ≡ held
  pub small : left < 2 ^ rest

-- the numbers in as many bytes as they need, the last of which has zeros behind its last needed bit
pub record ArePacked (w : ℕ) (numbers text : List ℕ) : Type 0 where
  pub size : length text ≡ bytes_for (w * length numbers)
  pub unpacks : unpacked w (length numbers) text ≡ numbers
  pub value : number_of text ≡ word_of w numbers

-- the least width that holds the numbers: 0 where there are none
pub record IsLeastWidth (w : ℕ) (ns : List ℕ) : Type 0 where
  pub holds : All (λ v. v < 2 ^ w) ns
  pub least : (u : ℕ) → All (λ v. v < 2 ^ u) ns → w ≤ u
