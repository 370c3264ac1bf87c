-- The row rule, with counts up to the largest number.
use Rattle.std.proofs.Common.{◌≡◌, ◌⊎◌, ℕ, ◌+◌, ◌-◌, ◌/◌, ◌<◌, ◌≤◌, ◌^◌, min, inl, inr, sym, ap, ◌∙◌, arith}
use Rattle.std.proofs.lemmas.Bool.{cases_lt}
use Rattle.std.proofs.Math.Nat.{div-eq_of_lt, div-lt_iff_lt-mul}

-- with as many bytes as the largest number counts, no more than one row stands in a page
many : (size rows : ℕ) → 0 < rows → rows < 2 ^ 64 → 2 ^ 128 - 1 ≤ size → 2113929216 ≤ size / rows
many size rows some few h = by_order (cases_lt (size / rows) 2113929216)
  where
    by_order : (size / rows < 2113929216) ⊎ (2113929216 ≤ size / rows) → 2113929216 ≤ size / rows
    by_order (inl l) = absurd (omega (arith, few, h, (div-lt_iff_lt-mul {x = size} {y = 2113929216} some).0 l))
    by_order (inr l) = l

none_of : (limit m n : ℕ) → limit < m → limit < n → limit / m ≡ limit / n
none_of limit m n h g = div-eq_of_lt h ∙ sym (div-eq_of_lt g)

pub quotient_same : (limit size rows plain each : ℕ) → 0 < rows → rows < 2 ^ 64 → limit ≤ 2113929216 → plain ≡ min size (2 ^ 128 - 1) → each ≡ min (plain / rows + 1) (2 ^ 128 - 1) → limit / each ≡ limit / (size / rows + 1)
quotient_same limit size rows plain each some few low p e = by_order (cases_lt size (2 ^ 128 - 1))
  where
    by_order : (size < 2 ^ 128 - 1) ⊎ (2 ^ 128 - 1 ≤ size) → limit / each ≡ limit / (size / rows + 1)
    by_order (inl l) =
        let same : plain ≡ size = omega (arith, p, l) in
        let q : plain / rows ≡ size / rows = ap (λ (n : ℕ). n / rows) same in
        by_size (cases_lt (size / rows) (2 ^ 128 - 1)) q
      where
        by_size : (size / rows < 2 ^ 128 - 1) ⊎ (2 ^ 128 - 1 ≤ size / rows) → plain / rows ≡ size / rows → limit / each ≡ limit / (size / rows + 1)
        by_size (inl s) q = ap (λ (n : ℕ). limit / n) (omega (arith, e, q, s))
        by_size (inr s) q = none_of limit each (size / rows + 1) (omega (arith, e, q, s, low)) (omega (arith, s, low))
    by_order (inr l) =
        let top : 2 ^ 128 - 1 ≤ plain = omega (arith, p, l) in
        none_of limit each (size / rows + 1) (omega (arith, e, low, many plain rows some few top)) (omega (arith, low, many size rows some few l))
