-- Decimals from their bytes, the highest first.
use Rattle.std.proofs.Common.{◌≡◌, inl, inr, ℕ, zero, suc, ◌+◌, ◌-◌, ◌*◌, ◌/◌, ◌^◌, ◌<◌, ◌≤◌, nat_le, ℤ, pos, negsuc, ◌-ℤ◌, Bool, true, false, true≢false, Some, None, List, [], ◌∷◌, length, take, refl, arith, ap, sym, subst, ◌∙◌, if◌then◌else◌}
use Rattle.std.proofs.lemmas.Int.{ints}
use Rattle.std.proofs.Math.Nat.{pow-succ', mod-eq_of_lt}
use Rattle.std.proofs.Math.Seq.{take-suc}
use Rattle.std.proofs.lemmas.Bool.Decides.{leb_tells}
use Rattle.std.proofs.lemmas.List.Sums.{fold-append}
use Rattle.std.specs.Prelude.{slice_index_or}
use Rattle.shredding.specs.Shape.{Fits}
use Rattle.shredding.specs.Slot.{number}
use Rattle.columns_core.specs.Natives.{within_signed}
use Rattle.pq_files.specs.Stored.{big_endian, signed_big_endian}
use Rattle.read_walk.specs.Values.{Stored}
use Rattle.read_leaf.specs.Fixed.{loaded_decimal}

grow : (i k : ℕ) → 256 ^ i ≤ 256 ^ (i + k)
grow i zero = let e : i + zero ≡ i = omega arith in rw e (omega arith)
grow i (suc k) = let e : i + suc k ≡ suc (i + k) = omega arith in rw e (omega (arith, grow i k, pow-succ' 256 (i + k)))

-- of at most sixteen bytes
pub most : (i : ℕ) → i ≤ 16 → 256 ^ i ≤ 2 ^ 128
most i h = let e : i + (16 - i) ≡ 16 = omega (arith, h) in subst (λ (n : ℕ). 256 ^ i ≤ 256 ^ n) e (grow i (16 - i))

pub big-more : (s : List ℕ) (i : ℕ) → i < length s → big_endian (take (suc i) s) ≡ 256 * big_endian (take i s) + slice_index_or s i 0
big-more s i h = ap big_endian (take-suc s i 0 h) ∙ fold-append (λ n b. 256 * n + b) 0 (take i s) (slice_index_or s i 0 ∷ [])

-- a step of the sum
step : (i n ones b : ℕ) → i < 16 → b < 256 → ones + 1 ≡ 256 ^ i → n ≤ ones → n * 256 + b < 2 ^ 128
step i n ones b h low e below = omega (arith, most (suc i) h, pow-succ' 256 i, e, below, low)

pub product-fits : (i n ones : ℕ) → i < 16 → ones + 1 ≡ 256 ^ i → n ≤ ones → n * 256 < 2 ^ 128
product-fits i n ones h e below = omega (arith, step i n ones 0 h (omega arith) e below)

pub sum-fits : (i n ones b : ℕ) → i < 16 → b < 256 → ones + 1 ≡ 256 ^ i → n ≤ ones → n * 256 + b < 2 ^ 128
sum-fits i n ones b h low e below = step i n ones b h low e below

-- ---- with a sign

pub small_is : (s : List ℕ) (n ones : ℕ) → n ≡ big_endian s → ones + 1 ≡ 256 ^ length s → n ≤ ones / 2 → pos n ≡ signed_big_endian s
small_is s n ones e p h =
    let less : 2 * big_endian s < 256 ^ length s = omega (arith, e, p, h) in
    elim (leb_tells (suc (2 * big_endian s)) (256 ^ length s)) [
      | inl t ↦ rw t.0 (ap pos e)
      | inr t ↦ absurd (omega (arith, t.1, less))
    ]

less_than : (a b k : ℕ) → b ≡ a + 1 + k → pos a -ℤ pos b ≡ negsuc k
less_than a b k e =
    let less : a < b = omega (arith, e) in
    let n : pos a -ℤ pos b ≡ negsuc (b - a - 1) = omega (arith, ints) in
    n ∙ ap negsuc (omega (arith, e))

pub great_is : (s : List ℕ) (n ones : ℕ) → n ≡ big_endian s → ones + 1 ≡ 256 ^ length s → n ≤ ones → ones / 2 < n → negsuc (ones - n) ≡ signed_big_endian s
great_is s n ones e p below h =
    let more : 256 ^ length s ≤ 2 * big_endian s = omega (arith, e, p, h) in
    elim (leb_tells (suc (2 * big_endian s)) (256 ^ length s)) [
      | inl t ↦ absurd (omega (arith, t.1, more))
      | inr t ↦ rw t.0 (sym (less_than (big_endian s) (256 ^ length s) (ones - n) (omega (arith, e, p, below))))
    ]

-- ---- within 128 bits

within-so : (z : ℤ) → Fits 128 z → within_signed 128 z ≡ z
within-so (pos n) f = ap pos (mod-eq_of_lt f)
within-so (negsuc n) f = ap negsuc (mod-eq_of_lt f)

kept : (b : Bool) (v : Stored) → b ≡ true → v ≡ (if b then v else None)
kept true v e = refl
kept false v e = absurd (true≢false (sym e))

dropped : (b : Bool) (v : Stored) → b ≡ false → None ≡ (if b then v else None)
dropped true v e = absurd (true≢false e)
dropped false v e = refl

pub decimal_read : (s : List ℕ) (z : ℤ) → length s ≤ 16 → Fits 128 z → z ≡ signed_big_endian s → Some (number (within_signed 128 z)) ≡ loaded_decimal s
decimal_read s z h f e =
    let few : nat_le (length s) 16 ≡ true = elim (leb_tells (length s) 16) [ inl t ↦ t.0 | inr t ↦ absurd (omega (arith, t.1, h)) ] in
    ap (λ (y : ℤ). Some (number y)) (within-so z f ∙ e) ∙ kept (nat_le (length s) 16) (Some (number (signed_big_endian s))) few

pub decimal_long : (s : List ℕ) → 16 < length s → None ≡ loaded_decimal s
decimal_long s h =
    let many : nat_le (length s) 16 ≡ false = elim (leb_tells (length s) 16) [ inl t ↦ absurd (omega (arith, t.1, h)) | inr t ↦ t.0 ] in
    dropped (nat_le (length s) 16) (Some (number (signed_big_endian s))) many
