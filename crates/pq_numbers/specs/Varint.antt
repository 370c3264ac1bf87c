-- Varints (Thrift compact protocol, "Base types, integers"; ULEB128): seven bits a byte, lowest first.
use Rattle.std.specs.Prelude.{◌≡◌, ◌⊎◌, ℕ, zero, suc, ◌+◌, ◌*◌, ◌/◌, ◌%◌, ◌^◌, ◌<◌, ◌≤◌, List, [], ◌∷◌, length, nat_lt, Option, Some, None, if◌then◌else◌}

-- A byte below 128 is the last, and stands for itself. One from 128 on has seven bits, and the bytes after it stand for the rest.
abbrev pub IsVarint : List ℕ → ℕ → Type 0
IsVarint [] n = ⊥
IsVarint (b ∷ bytes) n = ((b < 128) × (n ≡ b) × (bytes ≡ [])) ⊎ ((128 ≤ b) × (high : ℕ) × (n ≡ b % 128 + 128 * high) × IsVarint bytes high)

-- a number of 64 bits in at most ten bytes; the last ones may be padding
pub record IsNumber (text : List ℕ) (n : ℕ) : Type 0 where
  pub digits : IsVarint text n
  pub short : length text ≤ 10
  pub below : n < 2 ^ 64

-- ---- reading: a number and the bytes behind it

abbrev pub varint_step : ℕ → Option (ℕ × List ℕ) → Option (ℕ × List ℕ)
varint_step b None = None
varint_step b (Some high) = if nat_lt high.0 (2 ^ 57) then Some (b % 128 + 128 * high.0, high.1) else None

unfoldable pub varint_up_to : ℕ → List ℕ → Option (ℕ × List ℕ)
varint_up_to zero bytes = None
varint_up_to (suc n) [] = None
varint_up_to (suc n) (b ∷ bytes) = if nat_lt b 128 then Some (b, bytes) else varint_step b (varint_up_to n bytes)

abbrev pub varint_at : List ℕ → Option (ℕ × List ℕ)
varint_at = varint_up_to 10

-- ---- writing

-- The number bounds the digits. The number itself is always enough.
unfoldable pub digits : ℕ → ℕ → List ℕ
digits zero n = n ∷ []
digits (suc k) n = if nat_lt n 128 then n ∷ [] else (n % 128 + 128) ∷ digits k (n / 128)

abbrev pub varint : ℕ → List ℕ
varint n = digits n n
