-- Decimals as byte strings of one length.
use Rattle.std.proofs.Common.{◌≡◌, inl, inr, ℕ, zero, suc, ◌+◌, ◌-◌, ◌*◌, ◌/◌, ◌%◌, ◌^◌, ◌<◌, ◌≤◌, ℤ, pos, negsuc, ◌-ℤ◌, List, length, drop, fold, refl, arith, ap, sym, ◌∙◌, pow-suc, mul_comm}
use Rattle.std.specs.Prelude.{All}
use Rattle.std.specs.Int.{w128, cast_unsigned, byte_at, bytes_high_first, to_be_bytes}
use Rattle.std.specs.List.{AllByRecursion as Each}
use Rattle.std.proofs.lemmas.Int.{ints}
use Rattle.std.proofs.lemmas.Nat.{mod_below, mod_low, pow_pos, pow-add}
use Rattle.std.proofs.Math.Nat.{add-mul, pow-le-pow_right, mod-eq_of_lt}
use Rattle.std.proofs.Math.Arith.{mod-mul}
use Rattle.std.proofs.lemmas.Bool.Decides.{leb_tells}
use Rattle.std.proofs.lemmas.List.Elements.{All-from_recursion}
use Rattle.shredding.specs.Shape.{Fits}
use Rattle.pq_files.specs.Stored.{big_endian, signed_big_endian}
use Rattle.write_values.specs.Decimals.{low_bytes}

-- ---- powers

powers : (n : ℕ) → 256 ^ n ≡ 2 ^ (8 * n)
powers zero = refl
powers (suc n) =
    let e : 8 * suc n ≡ 8 * n + 8 = omega arith in
    let p : 2 ^ (8 * n + 8) ≡ 2 ^ (8 * n) * 2 ^ 8 = pow-add 2 (8 * n) 8 in
    omega (arith, pow-suc 256 n, powers n, ap (λ (k : ℕ). 2 ^ k) e, p)

half : (n : ℕ) → 1 ≤ n → 2 * 2 ^ (8 * n - 1) ≡ 256 ^ n
half n h =
    let e : 8 * n ≡ 8 * n - 1 + 1 = omega (arith, h) in
    omega (arith, powers n, ap (λ (k : ℕ). 2 ^ k) e, pow-add 2 (8 * n - 1) 1)

-- ---- the number that low bytes spell

byte_on : (k n high : ℕ) → (256 * high + byte_at k n) * 256 ^ k + n % 256 ^ k ≡ high * 256 ^ suc k + n % 256 ^ suc k
byte_on zero n high = omega arith
byte_on (suc k) n high =
    let unit = 256 ^ suc k in
    let wider : 256 ^ suc (suc k) ≡ 256 * unit = pow-suc 256 (suc k) ∙ mul_comm unit 256 in
    let some : 0 < unit = pow-le-pow_right {n = 256} (omega arith) {i = 0} {j = suc k} (omega arith) in
    rw (wider, mod-mul n {m = 256} {c = unit} (omega arith) some) (omega arith)

bytes_read : (k n high : ℕ) → fold (λ h b. 256 * h + b) high (bytes_high_first k n) ≡ high * 256 ^ k + n % 256 ^ k
bytes_read zero n high = omega arith
bytes_read (suc k) n high = bytes_read k n (256 * high + byte_at k n) ∙ byte_on k n high

low_is : (n m : ℕ) → big_endian (bytes_high_first n m) ≡ m % 256 ^ n
low_is n m = bytes_read n m 0 ∙ omega arith

-- ---- their length and range

pub long : (n m : ℕ) → length (bytes_high_first n m) ≡ n
long zero m = refl
long (suc n) m = ap suc (long n m)

byte_below : (k m : ℕ) → byte_at k m < 256
byte_below zero m = mod_below m 256 (omega arith)
byte_below (suc k) m = mod_below (m / 256 ^ suc k) 256 (omega arith)

each_below : (n m : ℕ) → Each (λ b. b < 256) (bytes_high_first n m)
each_below zero m = tt
each_below (suc n) m = (byte_below n m, each_below n m)

pub all_below : (n m : ℕ) → All (λ b. b < 256) (bytes_high_first n m)
all_below n m = All-from_recursion (λ b. b < 256) (bytes_high_first n m) (each_below n m)

-- ---- with a sign

below_half : (s : List ℕ) (k : ℕ) → big_endian s ≡ k → 2 * k < 256 ^ length s → pos k ≡ signed_big_endian s
below_half s k e h =
    elim (leb_tells (suc (2 * big_endian s)) (256 ^ length s)) [
      | inl t ↦ rw t.0 (ap pos (sym e))
      | inr t ↦ absurd (omega (arith, t.1, e, h))
    ]

less_than : (a b k : ℕ) → b ≡ a + 1 + k → pos a -ℤ pos b ≡ negsuc k
less_than a b k e =
    let less : a < b = omega (arith, e) in
    let n : pos a -ℤ pos b ≡ negsuc (b - a - 1) = omega (arith, ints) in
    n ∙ ap negsuc (omega (arith, e))

above_half : (s : List ℕ) (k : ℕ) → 256 ^ length s ≡ big_endian s + 1 + k → 2 * k + 2 ≤ 256 ^ length s → negsuc k ≡ signed_big_endian s
above_half s k e h =
    elim (leb_tells (suc (2 * big_endian s)) (256 ^ length s)) [
      | inl t ↦ absurd (omega (arith, t.1, e, h))
      | inr t ↦ rw t.0 (sym (less_than (big_endian s) (256 ^ length s) k e))
    ]

-- of a negative number the low bits
low_negative : (n k : ℕ) → n ≤ 16 → k < 256 ^ n → (2 ^ 128 - 1 - k) % 256 ^ n + 1 + k ≡ 256 ^ n
low_negative n k h l =
    let w = 8 * n in
    let q = 128 - w in
    let p : 256 ^ n ≡ 2 ^ w = powers n in
    let sum : q + w ≡ 128 = omega (arith, h) in
    let whole : 2 ^ q * 2 ^ w ≡ 2 ^ 128 = sym (pow-add 2 q w) ∙ ap (λ (j : ℕ). 2 ^ j) sum in
    let some : 0 < 2 ^ q = pow_pos q in
    let lo = 2 ^ w - 1 - k in
    let one_more : 2 ^ q ≡ 2 ^ q - 1 + 1 = omega (arith, some) in
    let cut : 2 ^ q * 2 ^ w ≡ (2 ^ q - 1) * 2 ^ w + 1 * 2 ^ w = ap (λ (j : ℕ). j * 2 ^ w) one_more ∙ add-mul (2 ^ q - 1) 1 (2 ^ w) in
    let is : 2 ^ 128 - 1 - k ≡ (2 ^ q - 1) * 2 ^ w + lo = omega (arith, cut, whole, l, p) in
    let low : (2 ^ 128 - 1 - k) % 256 ^ n ≡ lo = ap (λ (m : ℕ). (2 ^ 128 - 1 - k) % m) p ∙ (ap (λ (m : ℕ). m % 2 ^ w) is ∙ mod_low (2 ^ q - 1) w lo (omega (arith, l, p))) in
    omega (arith, low, l, p)

pub decimal_spelled : (n : ℕ) (z : ℤ) → 1 ≤ n → n ≤ 16 → Fits (8 * n) z → z ≡ signed_big_endian (low_bytes n z)
decimal_spelled n (pos k) some few f =
    let s = low_bytes n (pos k) in
    let size : 256 ^ length s ≡ 256 ^ n = ap (λ (j : ℕ). 256 ^ j) (long n (cast_unsigned w128 (pos k))) in
    let less : 2 * k < 256 ^ n = omega (arith, half n some, f) in
    below_half s k (low_is n k ∙ mod-eq_of_lt (omega (arith, less))) (omega (arith, size, less))
decimal_spelled n (negsuc k) some few f =
    let s = low_bytes n (negsuc k) in
    let size : 256 ^ length s ≡ 256 ^ n = ap (λ (j : ℕ). 256 ^ j) (long n (cast_unsigned w128 (negsuc k))) in
    let less : 2 * k + 2 ≤ 256 ^ n = omega (arith, half n some, f) in
    let bits : cast_unsigned w128 (negsuc k) ≡ 2 ^ 128 - 1 - k = omega arith in
    let low : big_endian s ≡ (2 ^ 128 - 1 - k) % 256 ^ n = low_is n (cast_unsigned w128 (negsuc k)) ∙ ap (λ (m : ℕ). m % 256 ^ n) bits in
    above_half s k (omega (arith, size, low, low_negative n k few (omega (arith, less)))) (omega (arith, size, less))

-- ---- the last bytes of sixteen

pub last_bytes : (n m : ℕ) → n ≤ 16 → drop (16 - n) (to_be_bytes w128 m) ≡ bytes_high_first n m
last_bytes zero m h = refl
last_bytes (suc zero) m h = refl
last_bytes (suc (suc zero)) m h = refl
last_bytes (suc (suc (suc zero))) m h = refl
last_bytes (suc (suc (suc (suc zero)))) m h = refl
last_bytes (suc (suc (suc (suc (suc zero))))) m h = refl
last_bytes (suc (suc (suc (suc (suc (suc zero)))))) m h = refl
last_bytes (suc (suc (suc (suc (suc (suc (suc zero))))))) m h = refl
last_bytes (suc (suc (suc (suc (suc (suc (suc (suc zero)))))))) m h = refl
last_bytes (suc (suc (suc (suc (suc (suc (suc (suc (suc zero))))))))) m h = refl
last_bytes (suc (suc (suc (suc (suc (suc (suc (suc (suc (suc zero)))))))))) m h = refl
last_bytes (suc (suc (suc (suc (suc (suc (suc (suc (suc (suc (suc zero))))))))))) m h = refl
last_bytes (suc (suc (suc (suc (suc (suc (suc (suc (suc (suc (suc (suc zero)))))))))))) m h = refl
last_bytes (suc (suc (suc (suc (suc (suc (suc (suc (suc (suc (suc (suc (suc zero))))))))))))) m h = refl
last_bytes (suc (suc (suc (suc (suc (suc (suc (suc (suc (suc (suc (suc (suc (suc zero)))))))))))))) m h = refl
last_bytes (suc (suc (suc (suc (suc (suc (suc (suc (suc (suc (suc (suc (suc (suc (suc zero))))))))))))))) m h = refl
last_bytes (suc (suc (suc (suc (suc (suc (suc (suc (suc (suc (suc (suc (suc (suc (suc (suc zero)))))))))))))))) m h = refl
last_bytes (suc (suc (suc (suc (suc (suc (suc (suc (suc (suc (suc (suc (suc (suc (suc (suc (suc n))))))))))))))))) m h = absurd (omega (arith, h))
