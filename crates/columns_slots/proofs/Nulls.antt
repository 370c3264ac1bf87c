-- The null slots of an array with a mask of its own.
use Rattle.std.proofs.Common.{◌≡◌, ℕ, zero, suc, ◌+◌, ◌-◌, ◌*◌, ◌≤◌, Bool, true, false, not, cond, List, ◌∷◌, length, take, drop, get_or, count_by, Some, None, add-one, refl, ap, sym, true≢false, ◌∙◌, arith}
use Rattle.std.proofs.Math.Seq.{drop-cons}
use Rattle.std.proofs.lemmas.List.{take_all}
use Rattle.std.proofs.lemmas.List.Sums.{sum_by-cons}
use Rattle.shredding.specs.Slot.{Slot, null, value, items, fields, slots_of}
use Rattle.shredding.specs.Parts.{slots_from, MaskFits}
use Rattle.columns_slots.specs.Tree.{Mask, ArrayTree, null_array, leaf_array, list_array, fixed_list_array, struct_array, dictionary_array}
use Rattle.columns_slots.specs.Slots.{masked, IsSound, slot_at, slots_at, leaf_at, first_of, count_of, is_null, nulls_in, is_masked, null_slots, mask_of}

abbrev weight : Bool → ℕ
weight b = cond b 1 0

sums : (x y u v : ℕ) → x ≡ y → u ≡ v → x + u ≡ y + v
sums x y u v e d = omega (arith, e, d)

-- one more in front
front : {X : Type 0} (p : X → Bool) (x : X) (xs : List X) → count_by p (x ∷ xs) ≡ weight (p x) + count_by p xs
front p x xs = sum_by-cons (λ y. cond (p y) 1 0) x xs

one : (b : Bool) (s : Slot) → is_null s ≡ false → weight (is_null (cond b s null)) ≡ weight (not b)
one true s e = ap weight e
one false s e = refl

none_null : (f : ℕ → Slot) (a n : ℕ) → ((i : ℕ) → is_null (f i) ≡ false) → count_by is_null (slots_from f a n) ≡ 0
unfolding slots_from
none_null f a zero e = refl
none_null f a (suc n) e = front is_null (f a) (slots_from f (a + 1) n) ∙ sums (weight (is_null (f a))) 0 _ 0 (ap weight (e a)) (none_null f (a + 1) n e)

some_null : (bits : List Bool) (f : ℕ → Slot) (a n : ℕ) → ((i : ℕ) → is_null (f i) ≡ false) → a + n ≤ length bits
    → count_by is_null (slots_from (λ i. masked (Some bits) i (f i)) a n) ≡ count_by not (take n (drop a bits))
unfolding slots_from
some_null bits f a zero e h = refl
some_null bits f a (suc n) e h =
    let rest : count_by is_null (slots_from (λ i. masked (Some bits) i (f i)) (a + 1) n) ≡ count_by not (take n (drop (suc a) bits)) =
    some_null bits f (a + 1) n e (omega (arith, h)) ∙ ap (λ k. count_by not (take n (drop k bits))) (add-one a)
    in
    front is_null (masked (Some bits) a (f a)) (slots_from (λ i. masked (Some bits) i (f i)) (a + 1) n)
    ∙ sums (weight (is_null (masked (Some bits) a (f a)))) (weight (not (get_or bits a true))) _ _ (one (get_or bits a true) (f a) (e a)) rest
    ∙ sym (front not (get_or bits a true) (take n (drop (suc a) bits)))
    ∙ ap (λ r. count_by not (take (suc n) r)) (sym (drop-cons bits a true (omega (arith, h))))

counted : (m : Mask) (f : ℕ → Slot) (n : ℕ) → ((i : ℕ) → is_null (f i) ≡ false) → MaskFits m n → count_by is_null (slots_from (λ i. masked m i (f i)) 0 n) ≡ nulls_in m
counted None f n e h = none_null f 0 n e
counted (Some bits) f n e h = some_null bits f 0 n e (omega (arith, h)) ∙ ap (count_by not) (take_all n bits (omega (arith, h)))

pub nulls_masked : (a : ArrayTree) → IsSound a → is_masked a ≡ true → null_slots a ≡ nulls_in (mask_of a)
nulls_masked (null_array t n) s e = absurd (true≢false (sym e))
nulls_masked (leaf_array t vs m) s e = counted m (λ i. value (leaf_at vs i)) (length vs) (λ i. refl) s.0
nulls_masked (list_array t os c m) s e = counted m (λ i. items (slots_of (slots_from (slot_at c) (first_of os i) (count_of os i)))) (length os - 1) (λ i. refl) s.1
nulls_masked (fixed_list_array t w n c m) s e = counted m (λ i. items (slots_of (slots_from (slot_at c) (i * w) w))) n (λ i. refl) s.1
nulls_masked (struct_array t cs m) s e = counted m (λ i. fields (slots_at cs i)) _ (λ i. refl) s.1
nulls_masked (dictionary_array t ks c m) s e = absurd (true≢false (sym e))
