-- Packed numbers: what stands behind them does not matter.
use Rattle.std.proofs.Common.{◌≡◌, ℕ, zero, suc, ◌+◌, ◌-◌, ◌*◌, ◌/◌, ◌%◌, ◌^◌, ◌≤◌, List, [], ◌∷◌, ◌++◌, length, refl, sym, ap, ◌∙◌, arith}
use Rattle.std.proofs.Math.Nat.{add-mul-mod_self_left, add-mul-div_left, mul_assoc}
use Rattle.std.proofs.lemmas.Nat.{pow-add, pow_pos}
use Rattle.pq_numbers.specs.Bits.{digits_of, unpacked}
use Rattle.pq_numbers.specs.Texts.{number_of}

pub length-digits : (b n m : ℕ) → length (digits_of b n m) ≡ n
length-digits b zero m = refl
length-digits b (suc n) m = omega (arith, length-digits b n (m / b))

split_power : (w n r c : ℕ) → 2 ^ (w * suc n + r) * c ≡ 2 ^ w * (2 ^ (w * n + r) * c)
split_power w n r c =
    let e : w * suc n + r ≡ w + (w * n + r) = omega arith in
    ap (λ (x : ℕ). 2 ^ x * c) e ∙ ap (λ (x : ℕ). x * c) (pow-add 2 w (w * n + r)) ∙ mul_assoc (2 ^ w) (2 ^ (w * n + r)) c

pub digits-high : (w n a r c : ℕ) → digits_of (2 ^ w) n (a + 2 ^ (w * n + r) * c) ≡ digits_of (2 ^ w) n a
digits-high w zero a r c = refl
digits-high w (suc n) a r c =
    ap (λ (x : ℕ). (a + x) % 2 ^ w ∷ digits_of (2 ^ w) n ((a + x) / 2 ^ w)) (split_power w n r c)
    ∙ ap (λ (x : ℕ). x ∷ digits_of (2 ^ w) n ((a + 2 ^ w * (2 ^ (w * n + r) * c)) / 2 ^ w)) (add-mul-mod_self_left a (2 ^ w) (2 ^ (w * n + r) * c))
    ∙ ap (λ (x : ℕ). a % 2 ^ w ∷ digits_of (2 ^ w) n x) (add-mul-div_left a (2 ^ (w * n + r) * c) (pow_pos w))
    ∙ ap (λ (xs : List ℕ). a % 2 ^ w ∷ xs) (digits-high w n (a / 2 ^ w) r c)

pub number_of-append : (xs ys : List ℕ) → number_of (xs ++ ys) ≡ number_of xs + 2 ^ (8 * length xs) * number_of ys
number_of-append [] ys = omega arith
number_of-append (b ∷ xs) ys =
    let whole : 8 * suc (length xs) ≡ 8 + 8 * length xs = omega arith in
    let power : 2 ^ (8 * suc (length xs)) ≡ 256 * 2 ^ (8 * length xs) = ap (λ (x : ℕ). 2 ^ x) whole ∙ pow-add 2 8 (8 * length xs) in
    let out : b + 256 * (number_of xs + 2 ^ (8 * length xs) * number_of ys) ≡ b + 256 * number_of xs + 256 * 2 ^ (8 * length xs) * number_of ys = omega arith in
    ap (λ (x : ℕ). b + 256 * x) (number_of-append xs ys) ∙ out ∙ ap (λ (x : ℕ). b + 256 * number_of xs + x * number_of ys) (sym power)

pub unpacked-append : (w n : ℕ) (xs ys : List ℕ) → w * n ≤ 8 * length xs → unpacked w n (xs ++ ys) ≡ unpacked w n xs
unpacked-append w n xs ys h =
    let e : w * n + (8 * length xs - w * n) ≡ 8 * length xs = omega (arith, h) in
    ap (digits_of (2 ^ w) n) (number_of-append xs ys ∙ ap (λ (k : ℕ). number_of xs + 2 ^ k * number_of ys) (sym e)) ∙ digits-high w n (number_of xs) (8 * length xs - w * n) (number_of ys)
