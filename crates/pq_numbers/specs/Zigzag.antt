-- Signed numbers in zigzag (Thrift compact protocol, "Base types, integers"): 0, -1, 1, -2, 2 and so on are 0, 1, 2, 3, 4.
use Rattle.std.specs.Prelude.{◌≡◌, ℕ, ◌+◌, ◌*◌, ◌/◌, ◌%◌, ◌<◌, ℤ, pos, negsuc, List, ◌==◌, if◌then◌else◌}
use Rattle.pq_numbers.specs.Varint.{IsNumber}

-- an even number is its half, an odd one is as far below -1 as its half
abbrev pub unzigzag : ℕ → ℤ
unzigzag n = if n % 2 == 0 then pos (n / 2) else negsuc (n / 2)

abbrev pub zigzag : ℤ → ℕ
zigzag (pos n) = 2 * n
zigzag (negsuc n) = 2 * n + 1

-- a signed number, the zigzag of which is below the limit
pub record IsSigned (limit : ℕ) (text : List ℕ) (z : ℤ) : Type 0 where
  pub n : ℕ
  pub number : IsNumber text n
  pub fits : n < limit
  pub is : z ≡ unzigzag n
