-- Sizes that wrap at 2^64.
use Rattle.std.proofs.Common.{◌≡◌, ℕ, ◌+◌, ◌-◌, ◌*◌, ◌%◌, ◌^◌, ap, ◌∙◌, arith}
use Rattle.std.proofs.Math.Nat.{add-mod-mod, mod-add-mod}
use Rattle.schema_fb.specs.Layout.{gap}

pub sum_low : (a b x y : ℕ) → a ≡ x % 2 ^ 64 → b ≡ y % 2 ^ 64 → (a + b) % 2 ^ 64 ≡ (x + y) % 2 ^ 64
sum_low a b x y p q = rw (p, q) (mod-add-mod x (2 ^ 64) (y % 2 ^ 64) ∙ add-mod-mod x y (2 ^ 64))

-- the gap after a size goes by its low bits
pub gap_low : (n : ℕ) → gap (n % 2 ^ 64) ≡ gap n
gap_low n =
    let same : (n % 2 ^ 64) % 8 ≡ n % 8 = omega arith in
    ap (λ (r : ℕ). (8 - r) % 8) same

pub padded_low : (a n : ℕ) → a ≡ n % 2 ^ 64 → (a + gap a) % 2 ^ 64 ≡ (n + gap n) % 2 ^ 64
padded_low a n h =
    let gaps : gap a ≡ gap n = ap gap h ∙ gap_low n in
    rw (gaps, h) (mod-add-mod n (2 ^ 64) (gap n))

pub scaled_low : (head each count : ℕ) → (count * each % 2 ^ 64 + head) % 2 ^ 64 ≡ (head + each * count) % 2 ^ 64
scaled_low head each count =
    let same : count * each + head ≡ head + each * count = omega arith in
    mod-add-mod (count * each) (2 ^ 64) head ∙ ap (λ (n : ℕ). n % 2 ^ 64) same
