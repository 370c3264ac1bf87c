-- Decimals of so many bits.
use Rattle.std.proofs.Common.{◌≡◌, ℕ, suc, ◌-◌, ◌/◌, ◌^◌, ◌<◌, ◌≤◌, ℤ, pos, negsuc, List, [], ◌∷◌, ◌++◌, drop, append-nil, false, true≢false, nat_eq, refl, sym, ap, ◌∙◌, arith, SFits, inl, inr}
use Rattle.std.specs.Int.{w32, w64, w128, int_shr, int_wrap, int_rem_euclid, cast_signed, cast_unsigned, to_be_bytes}
use Rattle.std.specs.Prelude.{unsigned_abs}
use Rattle.std.proofs.lemmas.Bool.{ne_eqb, eq-eqb}
use Rattle.std.proofs.lemmas.Bool.Decides.{leb_tells}
use Rattle.std.proofs.lemmas.Int.{to_z-of_z}
use Rattle.std.proofs.lemmas.Nat.{pow_pos, div_below, le-div, shr_le}
use Rattle.std.proofs.Math.Nat.{mod-eq_of_lt}
use Rattle.shredding.specs.Slot.{bytes}
use Rattle.columns_core.specs.Natives.{within_signed}
use Rattle.pq_tree.specs.Physical.{fixed}
use Rattle.write_values.specs.Decimals.{fits_in, low_bytes}
use Rattle.write_values.specs.Rows.{AppendsRow}
use Rattle.write_values.proofs.DecimalBytes.{last_bytes, long}

-- what stands above the low bits
above_none : (n k : ℕ) → n < 2 ^ k → n / 2 ^ k ≡ 0
above_none n k h = omega (arith, div_below n (2 ^ k) 1 (pow_pos k) (omega (arith, h)))

above_some : (n k : ℕ) → 2 ^ k ≤ n → 1 ≤ n / 2 ^ k
above_some n k h = le-div 1 n (2 ^ k) (pow_pos k) (omega (arith, h))

-- where it is no 0 it is -1 exactly of a negative number of so many bits
minus_one : (z : ℤ) (bits : ℕ) → SFits w128 z → nat_eq (cast_unsigned w128 (int_shr z (bits - 1))) 0 ≡ false → nat_eq (cast_unsigned w128 (int_shr z (bits - 1))) 340282366920938463463374607431768211455 ≡ fits_in bits z
minus_one (pos n) bits f h =
    let k = bits - 1 in
    let few : n / 2 ^ k ≤ n = shr_le n k in
    elim (leb_tells (suc n) (2 ^ k)) [
      | inl t ↦ absurd (true≢false (sym (eq-eqb (n / 2 ^ k) 0 (above_none n k (omega (arith, t.1)))) ∙ h))
      | inr t ↦ ne_eqb (n / 2 ^ k) 340282366920938463463374607431768211455 (λ e. omega (arith, few, f, e)) ∙ sym t.0
    ]
minus_one (negsuc n) bits f h =
    let k = bits - 1 in
    let few : n / 2 ^ k ≤ n = shr_le n k in
    elim (leb_tells (suc n) (2 ^ k)) [
      | inl t ↦ eq-eqb _ _ (omega (arith, above_none n k (omega (arith, t.1)))) ∙ sym t.0
      | inr t ↦ ne_eqb _ _ (λ e. omega (arith, few, f, e, above_some n k (omega (arith, t.1)))) ∙ sym t.0
    ]

pub shifted : (z : ℤ) (bits : ℕ) → SFits w128 z → nat_eq (cast_unsigned w128 (int_shr (cast_signed w128 (cast_unsigned w128 z)) (bits - 1))) 0 ≡ false
    → nat_eq (cast_unsigned w128 (int_shr (cast_signed w128 (cast_unsigned w128 z)) (bits - 1))) 340282366920938463463374607431768211455 ≡ fits_in bits z
shifted z bits f = rw (to_z-of_z w128 z f) (minus_one z bits f)

-- ---- within 128 bits

pub within_same : (z : ℤ) → SFits w128 z → within_signed 128 z ≡ z
within_same (pos n) f = ap pos (mod-eq_of_lt (omega (arith, f)))
within_same (negsuc n) f = ap negsuc (mod-eq_of_lt (omega (arith, f)))

pub low_bits_32 : (z : ℤ) → SFits w128 z → cast_signed w32 (unsigned_abs (int_rem_euclid (cast_signed w128 (cast_unsigned w128 z)) (pos (2 ^ 32)))) ≡ int_wrap w32 (within_signed 128 z)
unfolding int_wrap
low_bits_32 z f = rw (to_z-of_z w128 z f, within_same z f) refl

pub low_bits_64 : (z : ℤ) → SFits w128 z → cast_signed w64 (unsigned_abs (int_rem_euclid (cast_signed w128 (cast_unsigned w128 z)) (pos (2 ^ 64)))) ≡ int_wrap w64 (within_signed 128 z)
unfolding int_wrap
low_bits_64 z f = rw (to_z-of_z w128 z f, within_same z f) refl

-- the last of sixteen bytes
pub last_of : (n : ℕ) (z : ℤ) (all out before : List ℕ) → n ≤ 16 → SFits w128 z → all ≡ to_be_bytes w128 (cast_unsigned w128 z) → out ≡ before ++ drop (16 - n) all → out ≡ before ++ low_bytes n (within_signed 128 z)
last_of n z all out before few f e is =
    is ∙ ap (λ (s : List ℕ). before ++ s) (ap (drop (16 - n)) e ∙ (last_bytes n (cast_unsigned w128 z) few ∙ ap (λ (y : ℤ). low_bytes n y) (sym (within_same z f))))

pub last_row : (n : ℕ) (z : ℤ) (out before : List ℕ) → out ≡ before ++ low_bytes n z → AppendsRow (fixed n) before out (bytes (low_bytes n z) ∷ [])
last_row n z out before e = record { text = low_bytes n z; parts = e; row = (low_bytes n z, [], (long n (cast_unsigned w128 z), refl), refl, sym (append-nil (low_bytes n z))) }
