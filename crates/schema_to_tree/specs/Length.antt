-- How many bytes a decimal takes (Parquet format, LogicalTypes, "DECIMAL").
use Rattle.std.specs.Prelude.{ℕ, zero, suc, ◌+◌, ◌-◌, ◌*◌, ◌^◌, ◌≤◌, leb, cond}

-- n bytes hold every decimal of precision p, of either sign
abbrev pub HoldsDecimals : ℕ → ℕ → Type 0
HoldsDecimals p n = 10 ^ p + 1 ≤ 2 ^ (8 * n - 1)

-- the least such number of bytes
pub record IsDecimalLength (p n : ℕ) : Type 0 where
  pub holds : HoldsDecimals p n
  pub least : (m : ℕ) → HoldsDecimals p m → n ≤ m

-- the first of n, n + 1, and so on to n + k that holds them
unfoldable pub first_length : ℕ → ℕ → ℕ → ℕ
first_length p zero n = n
first_length p (suc k) n = cond (leb (10 ^ p + 1) (2 ^ (8 * n - 1))) n (first_length p k (suc n))

-- the length of a precision from 1 to 38
unfoldable pub decimal_length : ℕ → ℕ
decimal_length p = first_length p 15 1
