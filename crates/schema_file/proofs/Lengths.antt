-- How long a decimal's bytes are at least and at most.
use Rattle.std.proofs.Common.{ℕ, zero, suc, ◌+◌, ◌*◌, ◌-◌, ◌^◌, ◌≤◌, Bool, true, false, cond, leb, arith}
use Rattle.schema_to_tree.specs.Length.{first_length, decimal_length}

either : (P : ℕ → Type 0) (b : Bool) (x y : ℕ) → P x → P y → P (cond b x y)
either P true x y h g = h
either P false x y h g = g

first_some : (p k n : ℕ) → 1 ≤ n → 1 ≤ first_length p k n
unfolding first_length
first_some p zero n h = h
first_some p (suc k) n h = either (λ x. 1 ≤ x) (leb (10 ^ p + 1) (2 ^ (8 * n - 1))) n (first_length p k (suc n)) h (first_some p k (suc n) (omega arith))

first_short : (p k n : ℕ) → first_length p k n ≤ n + k
unfolding first_length
first_short p zero n = omega arith
first_short p (suc k) n = either (λ x. x ≤ n + suc k) (leb (10 ^ p + 1) (2 ^ (8 * n - 1))) n (first_length p k (suc n)) (omega arith) (omega (arith, first_short p k (suc n)))

pub length_some : (p : ℕ) → 1 ≤ decimal_length p
unfolding decimal_length
length_some p = first_some p 15 1 (omega arith)

pub length_short : (p : ℕ) → decimal_length p ≤ 16
unfolding decimal_length
length_short p = omega (arith, first_short p 15 1)
