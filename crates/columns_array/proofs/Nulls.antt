-- The null slots of any array.
use Rattle.std.proofs.Common.{◌≡◌, ℕ, zero, suc, ◌+◌, ◌<◌, Bool, true, false, cond, List, length, count_by, Some, subst, add-one, zero-add, refl, ap, ◌∙◌, arith}
use Rattle.std.proofs.lemmas.List.Sums.{sum_by-cons}
use Rattle.shredding.specs.Slot.{Slot, null}
use Rattle.shredding.specs.Parts.{slots_from, MaskFits}
use Rattle.columns_core.specs.Tree.{TypeTree}
use Rattle.columns_array.proofs.Keys.{mask_long}
use Rattle.columns_slots.specs.Tree.{ArrayTree, null_array, leaf_array, list_array, fixed_list_array, struct_array, dictionary_array}
use Rattle.columns_slots.specs.Slots.{IsSound, tree_len, is_null, null_slots, mask_of}

abbrev weight : Bool → ℕ
weight b = cond b 1 0

nulls_on : (f : ℕ → Slot) (a n : ℕ) → count_by is_null (slots_from f a (suc n)) ≡ weight (is_null (f a)) + count_by is_null (slots_from f (a + 1) n)
unfolding slots_from
nulls_on f a n = sum_by-cons (λ s. cond (is_null s) 1 0) (f a) (slots_from f (a + 1) n)

all_from : (a n : ℕ) → count_by is_null (slots_from (λ i. null) a n) ≡ n
unfolding slots_from
all_from a zero = refl
all_from a (suc n) = nulls_on (λ i. null) a n ∙ omega (arith, all_from (a + 1) n)

pub all_null : (t : TypeTree) (n : ℕ) → null_slots (null_array t n) ≡ n
all_null t n = all_from 0 n

pub sound_mask : (a : ArrayTree) → IsSound a → MaskFits (mask_of a) (tree_len a)
sound_mask (null_array t n) s = tt
sound_mask (leaf_array t vs m) s = s.0
sound_mask (list_array t os c m) s = s.1
sound_mask (fixed_list_array t w n c m) s = s.1
sound_mask (struct_array t cs m) s = s.1
sound_mask (dictionary_array t ks c m) s = s.0

-- ---- a count that goes on
from_one : (f : ℕ → Slot) (a : ℕ) → weight (is_null (f a)) + count_by is_null (slots_from f (a + 1) zero) ≡ count_by is_null (slots_from f a zero) + weight (is_null (f (a + 0)))
unfolding slots_from
from_one f a =
    let e : a + 0 ≡ a = omega arith in
    rw e (omega arith)

from_more : (f : ℕ → Slot) (a n : ℕ) → count_by is_null (slots_from f a (suc n)) ≡ count_by is_null (slots_from f a n) + weight (is_null (f (a + n)))
from_more f a zero = nulls_on f a zero ∙ from_one f a
from_more f a (suc n) =
    let e : a + 1 + n ≡ a + suc n = omega arith in
    nulls_on f a (suc n) ∙ omega (arith, from_more f (a + 1) n, nulls_on f a n, ap (λ i. weight (is_null (f i))) e)

pub count_more : (f : ℕ → Slot) (i c : ℕ) → c ≡ count_by is_null (slots_from f 0 i) → is_null (f i) ≡ true → c + 1 ≡ count_by is_null (slots_from f 0 (i + 1))
count_more f i c h e =
    let z : 0 + i ≡ i = zero-add i in
    rw (add-one i) (omega (arith, h, from_more f 0 i, ap (λ j. weight (is_null (f j))) z, ap weight e))

pub count_same : (f : ℕ → Slot) (i c : ℕ) → c ≡ count_by is_null (slots_from f 0 i) → is_null (f i) ≡ false → c ≡ count_by is_null (slots_from f 0 (i + 1))
count_same f i c h e =
    let z : 0 + i ≡ i = zero-add i in
    rw (add-one i) (omega (arith, h, from_more f 0 i, ap (λ j. weight (is_null (f j))) z, ap weight e))

pub mask_bit : (a : ArrayTree) (bits : List Bool) (i : ℕ) → IsSound a → mask_of a ≡ Some bits → i < tree_len a → i < length bits
mask_bit a bits i s e h = mask_long bits (tree_len a) i (subst (λ m. MaskFits m (tree_len a)) e (sound_mask a s)) h

pub none_counted : (f : ℕ → Slot) → 0 ≡ count_by is_null (slots_from f 0 0)
unfolding slots_from
none_counted f = refl
