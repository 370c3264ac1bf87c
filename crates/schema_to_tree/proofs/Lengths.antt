-- The least length of decimals is that of the table.
use Rattle.std.proofs.Common.{◌≡◌, ℕ, zero, suc, ◌+◌, ◌-◌, ◌*◌, ◌^◌, ◌<◌, ◌≤◌, ◌⊎◌, inl, inr, Bool, true, false, leb, refl, subst, sym, add-zero, add-one, ◌%◌, lit<, lit≤, eq-or-lt_of_le, arith}
use Rattle.std.proofs.lemmas.Bool.{leb-true, leb-false, cases_lt}
use Rattle.std.proofs.lemmas.Nat.{one_shl}
use Rattle.std.proofs.Math.Nat.{pow-le-pow_right, one-le-pow}
use Rattle.schema_to_tree.specs.Length.{HoldsDecimals, IsDecimalLength, first_length, decimal_length}

-- no length below n holds them
abbrev pub Short : ℕ → ℕ → Type 0
Short p n = (m : ℕ) → m < n → 2 ^ (8 * m - 1) < 10 ^ p + 1

first-zero : (p n : ℕ) → first_length p zero n ≡ n
unfolding first_length
first-zero p n = refl

first-here : (p k n : ℕ) → leb (10 ^ p + 1) (2 ^ (8 * n - 1)) ≡ true → first_length p (suc k) n ≡ n
unfolding first_length
first-here p k n h = rw h refl

first-later : (p k n : ℕ) → leb (10 ^ p + 1) (2 ^ (8 * n - 1)) ≡ false → first_length p (suc k) n ≡ first_length p k (suc n)
unfolding first_length
first-later p k n h = rw h refl

above : (p n m : ℕ) → Short p n → HoldsDecimals p m → (m < n) ⊎ (n ≤ m) → n ≤ m
above p n m s h (inl x) = let k : 2 ^ (8 * m - 1) < 10 ^ p + 1 = s m x in absurd (omega (arith, h, k))
above p n m s h (inr x) = x

pub is_length : (p n : ℕ) → Short p n → HoldsDecimals p n → IsDecimalLength p n
is_length p n s h = record { holds = h; least = λ m hm. above p n m s hm (cases_lt m n) }

pub short-more : (p n : ℕ) → Short p n → 2 ^ (8 * n - 1) < 10 ^ p + 1 → Short p (suc n)
short-more p n s h = λ m below. at m below (cases_lt m n)
  where
    at : (m : ℕ) → m < suc n → (m < n) ⊎ (n ≤ m) → 2 ^ (8 * m - 1) < 10 ^ p + 1
    at m below (inl x) = s m x
    at m below (inr x) = let e : n ≡ m = omega arith in subst (λ (k : ℕ). 2 ^ (8 * k - 1) < 10 ^ p + 1) e h

suc_plus : (n k : ℕ) → n + suc k ≡ suc n + k
suc_plus n k = omega arith

step : (p k n : ℕ) (b : Bool) → Short p n → HoldsDecimals p (n + suc k) → leb (10 ^ p + 1) (2 ^ (8 * n - 1)) ≡ b
    → (Short p (suc n) → HoldsDecimals p (suc n + k) → IsDecimalLength p (first_length p k (suc n))) → IsDecimalLength p (first_length p (suc k) n)
step p k n true s h e next = rw (first-here p k n e) (is_length p n s (leb-true _ _ e))
step p k n false s h e next =
    rw (first-later p k n e) (next (short-more p n s (leb-false _ _ e)) (subst (λ (m : ℕ). HoldsDecimals p m) (suc_plus n k) h))

from : (p k n : ℕ) → Short p n → HoldsDecimals p (n + k) → IsDecimalLength p (first_length p k n)
from p zero n s h = rw (first-zero p n) (is_length p n s (subst (λ (m : ℕ). HoldsDecimals p m) (add-zero n) h))
from p (suc k) n s h = step p k n _ s h refl (from p k (suc n))

pub none_short : (p : ℕ) → Short p 1
none_short p = λ m below. at m below (one-le-pow p 10 (lit< tt))
  where
    at : (m : ℕ) → m < 1 → 1 ≤ 10 ^ p → 2 ^ (8 * m - 1) < 10 ^ p + 1
    at zero below h = omega arith
    at (suc m) below h = absurd (omega arith)

most_hold : (p : ℕ) → p ≤ 38 → HoldsDecimals p 16
most_hold p h =
    let a : 10 ^ p ≤ 10 ^ 38 = pow-le-pow_right (lit< tt) h in
    let b : 10 ^ 38 + 1 ≤ 2 ^ 127 = lit≤ tt in
    omega (arith, a, b)

pub decimal_length-least : (p : ℕ) → p ≤ 38 → IsDecimalLength p (decimal_length p)
unfolding decimal_length
decimal_length-least p h = from p 15 1 (none_short p) (most_hold p h)

pub length-unique : (p m n : ℕ) → IsDecimalLength p m → IsDecimalLength p n → m ≡ n
length-unique p m n a b =
    let x : m ≤ n = a.least n b.holds in
    let y : n ≤ m = b.least m a.holds in
    omega (arith, x, y)

pub power_fits : (p : ℕ) → p ≤ 38 → 10 ^ p < 2 ^ 128
power_fits p h = let a : 10 ^ p + 1 ≤ 2 ^ 127 = most_hold p h in let b : 2 ^ 127 < 2 ^ 128 = lit< tt in omega (arith, a, b)

-- the bound that the code computes
abbrev bound : ℕ → ℕ
bound n = (1 * 2 ^ (8 * n - 1)) % 2 ^ 128

bound_is : (n : ℕ) → n ≤ 16 → bound n ≡ 2 ^ (8 * n - 1)
bound_is n h = one_shl (8 * n - 1) 128 (omega arith)

too_short : (p n g : ℕ) → n ≤ 16 → g ≡ 10 ^ p → bound n ≤ g → 2 ^ (8 * n - 1) ≤ 10 ^ p
too_short p n g h e le = let b : bound n ≡ 2 ^ (8 * n - 1) = bound_is n h in omega (arith, b, e, le)

-- a length that is too short is below 16
pub next_fits : (p n g : ℕ) → p ≤ 38 → n ≤ 16 → g ≡ 10 ^ p → bound n ≤ g → n < 16
next_fits p n g h le e short = at (eq-or-lt_of_le le)
  where
    at : (n ≡ 16) ⊎ (n < 16) → n < 16
    at (inl is) =
        let s : 2 ^ (8 * n - 1) ≤ 10 ^ p = too_short p n g le e short in
        let t : 2 ^ 127 ≤ 10 ^ p = subst (λ (m : ℕ). 2 ^ (8 * m - 1) ≤ 10 ^ p) is s in
        let u : 10 ^ p + 1 ≤ 2 ^ 127 = most_hold p h in
        absurd (omega (arith, t, u))
    at (inr l) = l

pub short-next : (p n g : ℕ) → Short p n → n ≤ 16 → g ≡ 10 ^ p → bound n ≤ g → Short p (n + 1)
short-next p n g s h e le =
    let t : 2 ^ (8 * n - 1) ≤ 10 ^ p = too_short p n g h e le in
    subst (Short p) (sym (add-one n)) (short-more p n s (omega (arith, t)))

pub found : (p n g : ℕ) → Short p n → n ≤ 16 → g ≡ 10 ^ p → g < bound n → IsDecimalLength p n
found p n g s h e more = is_length p n s (let b : bound n ≡ 2 ^ (8 * n - 1) = bound_is n h in omega (arith, b, e, more))
