-- Numbers of a column as the keys of a dictionary.
use Rattle.std.proofs.Common.{◌≡◌, ◌↔◌, ◌⊎◌, Result, Ok, Err, IfOk, inl, inr, ◌≤◌, Some, eq-or-lt_of_le, ℕ, zero, suc, ◌+◌, ◌<◌, ℤ, pos, negsuc, Bool, true, false, IsTrue, List, [], ◌∷◌, ◌++◌, length, map, refl, arith, ap, sym, ◌∙◌, subst, true≢false, if◌then◌else◌, length-append}
use Rattle.std.specs.Prelude.{slice_index_or}
use Rattle.columns_core.specs.Rising.{IsWhole, whole}
use Rattle.read_leaf.specs.Numbers.{number_slots}
use Rattle.columns_base.specs.declared.error.Error.{Error}
use Rattle.columns_leaf.specs.Keyed.{key_mask, keys_of}
use Rattle.columns_leaf.specs.declared.keys.DictionaryKeys.{DictionaryKeys}
use Rattle.columns_slots.specs.Tree.{Mask}
use Rattle.shredding.specs.Slot.{Value, null, value, number}
use Rattle.dictionary_leaves.specs.KeySlots.{AreKeysOf, AreMaskedTo, IsKeyBit, IsKeyOf, IsMaskedBit, KeepKeys}

-- ---- one key

-- a number without a sign, which is the number that it is loaded as
pub unsigned_bit : (n k z : ℕ) (b : Bool) → z ≡ k → IsTrue b ↔ (IsWhole (pos k) × (whole (pos k) < n)) → IsKeyBit n (pos k) (pos z) b
unsigned_bit n k z true e h = (k, (h.0 refl).1, refl, ap pos e)
unsigned_bit n k z false e h = λ i l same. true≢false (sym (h.1 (tt, subst (λ (m : ℕ). m < n) (sym (sym e ∙ same-number z i same)) l)))
  where
    same-number : (z i : ℕ) → pos z ≡ pos i → z ≡ i
    same-number z i e = cc e

pub signed_bit : (n : ℕ) (k z : ℤ) (b : Bool) → z ≡ k → IsTrue b ↔ (IsWhole k × (whole k < n)) → IsKeyBit n k z b
signed_bit n (pos k) z true e h = (k, (h.0 refl).1, refl, e)
signed_bit n (negsuc k) z true e h = absurd (h.0 refl).0
signed_bit n (pos k) z false e h = λ i l same. true≢false (sym (h.1 (tt, subst (λ (m : ℕ). m < n) (sym (same-number k i (sym e ∙ same))) l)))
  where
    same-number : (k i : ℕ) → pos k ≡ pos i → k ≡ i
    same-number k i e = cc e
signed_bit n (negsuc k) z false e h = λ i l same. clash k i (sym e ∙ same)
  where
    clash : (k i : ℕ) → negsuc k ≡ pos i → ⊥
    clash k i e = absurd (cc e)

-- ---- bits

at_end : (bits : List Bool) (b : Bool) → slice_index_or (bits ++ b ∷ []) (length bits) false ≡ b
at_end [] b = refl
at_end (x ∷ bits) b = at_end bits b

before_end : (bits : List Bool) (b : Bool) (i : ℕ) → i < length bits → slice_index_or (bits ++ b ∷ []) i false ≡ slice_index_or bits i false
before_end [] b i h = absurd (omega (arith, h))
before_end (x ∷ bits) b zero h = refl
before_end (x ∷ bits) b (suc i) h = before_end bits b i (omega (arith, h))

pub masked_none : (n : ℕ) (mask : List Bool) (kept loaded : List ℤ) (bits : List Bool) → bits ≡ [] → AreMaskedTo 0 n mask kept loaded bits
masked_none n mask kept loaded bits e = record { count = ap length e; each = λ i h. absurd (omega (arith, h)) }

pub masked_more : (k n : ℕ) (mask : List Bool) (kept loaded : List ℤ) (bits : List Bool) (b : Bool) (bits' : List Bool) → bits' ≡ bits ++ b ∷ [] → AreMaskedTo k n mask kept loaded bits → IsMaskedBit n (slice_index_or mask k false) (slice_index_or kept k (pos 0)) (slice_index_or loaded k (pos 0)) b → AreMaskedTo (k + 1) n mask kept loaded bits'
masked_more k n mask kept loaded bits b bits' e a s = record {
  count = ap length e ∙ (length-append bits (b ∷ []) ∙ omega (arith, a.count));
  each = λ i h. by i (eq-or-lt_of_le (le-of i h));
}
  where
    le-of : (i : ℕ) → i < k + 1 → i ≤ k
    le-of i h = omega (arith, h)

    last : slice_index_or bits' k false ≡ b
    last = ap (λ (bs : List Bool). slice_index_or bs k false) e ∙ (ap (λ (j : ℕ). slice_index_or (bits ++ b ∷ []) j false) (sym a.count) ∙ at_end bits b)

    by : (i : ℕ) → (i ≡ k) ⊎ (i < k) → IsMaskedBit n (slice_index_or mask i false) (slice_index_or kept i (pos 0)) (slice_index_or loaded i (pos 0)) (slice_index_or bits' i false)
    by i (inl p) = subst (λ (j : ℕ). IsMaskedBit n (slice_index_or mask j false) (slice_index_or kept j (pos 0)) (slice_index_or loaded j (pos 0)) (slice_index_or bits' j false)) (sym p) (subst (λ (c : Bool). IsMaskedBit n (slice_index_or mask k false) (slice_index_or kept k (pos 0)) (slice_index_or loaded k (pos 0)) c) (sym last) s)
    by i (inr q) = subst (λ (c : Bool). IsMaskedBit n (slice_index_or mask i false) (slice_index_or kept i (pos 0)) (slice_index_or loaded i (pos 0)) c) (sym (ap (λ (bs : List Bool). slice_index_or bs i false) e ∙ before_end bits b i (omega (arith, q, a.count)))) (a.each i q)

-- ---- all keys

one-key : (n : ℕ) (m : Bool) (kept loaded : ℤ) (b : Bool) → IsMaskedBit n m kept loaded b → IsKeyOf n (if m then value (number loaded) else null) b kept
one-key n true kept loaded true h = (h.1.0, h.1.1, h.1.2, ap (λ (z : ℤ). value (number z)) h.1.3)
one-key n false kept loaded true h = absurd (true≢false (sym h.0))
one-key n true kept loaded false h = λ i l e. h refl i l (same-number loaded (pos i) e)
  where
    same-number : (y z : ℤ) → value (number y) ≡ value (number z) → y ≡ z
    same-number y z e = cc e
one-key n false kept loaded false h = λ i l e. clash (number (pos i)) e
  where
    clash : (v : Value) → null ≡ value v → ⊥
    clash v e = absurd (cc e)

keyed : {A : Type 0} (kept loaded : A → ℤ) (n : ℕ) (numbers : List A) (mask bits : List Bool) → length mask ≡ length numbers → length bits ≡ length numbers → ((i : ℕ) → i < length numbers → IsMaskedBit n (slice_index_or mask i false) (slice_index_or (map kept numbers) i (pos 0)) (slice_index_or (map loaded numbers) i (pos 0)) (slice_index_or bits i false)) → AreKeysOf n (number_slots (map loaded numbers) mask) bits (map kept numbers)
keyed kept loaded n [] [] [] e f h = tt
keyed kept loaded n [] (m ∷ mask) bits e f h = absurd (omega (arith, e))
keyed kept loaded n [] [] (b ∷ bits) e f h = absurd (omega (arith, f))
keyed kept loaded n (x ∷ numbers) [] bits e f h = absurd (omega (arith, e))
keyed kept loaded n (x ∷ numbers) (m ∷ mask) [] e f h = absurd (omega (arith, f))
keyed kept loaded n (x ∷ numbers) (m ∷ mask) (b ∷ bits) e f h =
    (one-key n m (kept x) (loaded x) b (h 0 (omega arith)), keyed kept loaded n numbers mask bits (omega (arith, e)) (omega (arith, f)) (λ i l. h (suc i) (omega (arith, l))))

pub keep_keys : {A : Type 0} (kept loaded : A → ℤ) (n : ℕ) (numbers : List A) (mask bits : List Bool) (m : Mask) (keys : List ℤ) → length mask ≡ length numbers → AreMaskedTo (length numbers) n mask (map kept numbers) (map loaded numbers) bits → m ≡ Some bits → keys ≡ map kept numbers → KeepKeys n (number_slots (map loaded numbers) mask) m keys
keep_keys kept loaded n numbers mask bits m keys e a is-mask are-keys = record {
  bits = bits;
  mask = is-mask;
  are = subst (λ (ks : List ℤ). AreKeysOf n (number_slots (map loaded numbers) mask) bits ks) (sym are-keys) (keyed kept loaded n numbers mask bits e a.count a.each);
}

pub keys_kept : {A : Type 0} (kept loaded : A → ℤ) (n : ℕ) (numbers numbers' : List A) (mask mask' mask'' bits bits' : List Bool) (r : Result DictionaryKeys Error) → length numbers ≡ length mask → numbers' ≡ numbers → mask' ≡ mask → mask'' ≡ mask' → AreMaskedTo (length numbers') n mask'' (map kept numbers') (map loaded numbers') bits → bits' ≡ bits → IfOk r (λ k. keys_of k ≡ map kept numbers') → IfOk r (λ k. key_mask k ≡ Some bits') → IfOk r (λ k. KeepKeys n (number_slots (map loaded numbers) mask) (key_mask k) (keys_of k))
keys_kept kept loaded n numbers numbers' mask mask' mask'' bits bits' (Err e) even are there same a b keys m = tt
keys_kept kept loaded n numbers numbers' mask mask' mask'' bits bits' (Ok k) even are there same a b keys m =
    let masked = rw (same ∙ there, are) at a in
    keep_keys kept loaded n numbers mask bits (key_mask k) (keys_of k) (sym even) masked (m ∙ ap Some b) (keys ∙ ap (map kept) are)
