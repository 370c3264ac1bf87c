-- Masks of the positions at which a leaf array has a value.
use Rattle.std.proofs.Common.{◌≡◌, ◌↔◌, IsTrue, nat_eq, ℕ, zero, suc, ◌+◌, ◌*◌, ◌<◌, Bool, true, false, not, ◌&&◌, cond, Option, Some, None, List, [], ◌∷◌, ◌++◌, length, map, get_or, count_by, replicate, refl, ap, sym, subst, ◌∙◌, true≢false, zero-add, add-one, add-zero, arith}
use Rattle.std.specs.Prelude.{Result, Ok, Err, IfOk}
use Rattle.std.specs.Cmp.{booleans_Decides}
use Rattle.std.proofs.lemmas.Bool.{eqb-true, eq-eqb}
use Rattle.std.proofs.lemmas.List.{length-map, map-append}
use Rattle.std.proofs.lemmas.Slice.Eq.{slice_eq-Decides}
use Rattle.columns_base.specs.declared.error.Error.{Error}
use Rattle.columns_core.specs.Bits.{bits_eq}
use Rattle.std.proofs.lemmas.List.Sums.{sum_by-cons}
use Rattle.shredding.specs.Along.{along}
use Rattle.shredding.specs.Parts.{keeps, slots_from, MaskFits}
use Rattle.shredding.specs.Shape.{at_leaf}
use Rattle.shredding.specs.Slot.{Slot, null, value, items, fields, slots_of}
use Rattle.columns_slots.specs.Tree.{Mask, ArrayTree, null_array, leaf_array, list_array, fixed_list_array, struct_array, dictionary_array}
use Rattle.columns_slots.specs.Slots.{slot_at, slots, tree_len, type_of, keys_in, child_of, mask_of, is_null, null_slots, masked, entry_at, leaf_at, first_of, count_of, slots_at, IsSound}
use Rattle.columns_slots.proofs.Rows.{slots_counted}
use Rattle.nested_paths.specs.LeafNulls.{is_value}
use Rattle.nested_paths.specs.Seen.{leaf_slot}
use Rattle.nested_paths.specs.ValueMasks.{KeepAlike, holds_values, lacks_values, is_valued, present_slots, IsValueMask}

-- ---- masks that keep the same

none_unset : (bits : List Bool) → count_by not bits ≡ 0 → (i : ℕ) → get_or bits i true ≡ true
none_unset [] h i = refl
none_unset (true ∷ bits) h zero = refl
none_unset (true ∷ bits) h (suc i) = none_unset bits (omega (arith, h, sum_by-cons (λ y. cond (not y) 1 0) true bits)) i
none_unset (false ∷ bits) h i = absurd (omega (arith, h, sum_by-cons (λ y. cond (not y) 1 0) false bits))

all_set : (bits : List Bool) → ((i : ℕ) → i < length bits → get_or bits i true ≡ true) → count_by not bits ≡ 0
all_set [] h = refl
all_set (true ∷ bits) h = omega (arith, sum_by-cons (λ y. cond (not y) 1 0) true bits, all_set bits (λ i l. h (suc i) (omega (arith, l))))
all_set (false ∷ bits) h = absurd (true≢false (sym (h 0 (omega arith))))

pub kept_all : (bits : List Bool) (n : ℕ) → length bits ≡ n → (count_by not bits ≡ 0) ↔ KeepAlike (Some bits) None n
kept_all bits n e = (λ h i l. none_unset bits h i, λ h. all_set bits (λ i l. h i (omega (arith, l, e))))

pub kept_by_all : (bits : List Bool) (n : ℕ) → length bits ≡ n → (count_by not bits ≡ 0) ↔ KeepAlike None (Some bits) n
kept_by_all bits n e = (λ h i l. sym (none_unset bits h i), λ h. all_set bits (λ i l. sym (h i (omega (arith, l, e)))))

same_bits : (xs ys : List Bool) → length xs ≡ length ys → ((i : ℕ) → i < length xs → get_or xs i true ≡ get_or ys i true) → xs ≡ ys
same_bits [] [] e h = refl
same_bits [] (y ∷ ys) e h = absurd (omega (arith, e))
same_bits (x ∷ xs) [] e h = absurd (omega (arith, e))
same_bits (x ∷ xs) (y ∷ ys) e h = rw (h 0 (omega arith), same_bits xs ys (omega (arith, e)) (λ i l. h (suc i) (omega (arith, l)))) refl

pub kept_same : (xs ys : List Bool) (n : ℕ) → length xs ≡ n → length ys ≡ n → (xs ≡ ys) ↔ KeepAlike (Some xs) (Some ys) n
kept_same xs ys n e f =
    (λ s i l. ap (λ m. get_or m i true) s, λ h. same_bits xs ys (e ∙ sym f) (λ i l. h i (omega (arith, l, e))))

counted_so : (u : ℕ) (bits : List Bool) (P : Type 0) → u ≡ count_by not bits → (count_by not bits ≡ 0) ↔ P → IsTrue (nat_eq u 0) ↔ P
counted_so u bits P e both = (λ h. both.0 (sym e ∙ eqb-true u 0 h), λ p. (eq-eqb u 0 (e ∙ both.1 p)))

pub none_some : (m k : Mask) (n u : ℕ) (bits : List Bool) → m ≡ None → Some bits ≡ k → MaskFits k n → u ≡ count_by not bits → IsTrue (nat_eq u 0) ↔ KeepAlike m k n
none_some m k n u bits e f fits c =
    subst (λ x. IsTrue (nat_eq u 0) ↔ KeepAlike x k n) (sym e)
    (subst (λ y. MaskFits y n → IsTrue (nat_eq u 0) ↔ KeepAlike None y n) f (λ h. counted_so u bits (KeepAlike None (Some bits) n) c (kept_by_all bits n h)) fits)

pub some_none : (m k : Mask) (n u : ℕ) (bits : List Bool) → m ≡ Some bits → None ≡ k → MaskFits m n → u ≡ count_by not bits → IsTrue (nat_eq u 0) ↔ KeepAlike m k n
some_none m k n u bits e f fits c =
    subst (λ y. IsTrue (nat_eq u 0) ↔ KeepAlike m y n) f
    (subst (λ x. MaskFits x n → IsTrue (nat_eq u 0) ↔ KeepAlike x None n) (sym e) (λ h. counted_so u bits (KeepAlike (Some bits) None n) c (kept_all bits n h)) fits)

pub some_some : (m k : Mask) (n : ℕ) (xs ys : List Bool) (r : Bool) → m ≡ Some xs → Some ys ≡ k → MaskFits m n → MaskFits k n → r ≡ bits_eq xs ys → IsTrue r ↔ KeepAlike m k n
some_some m k n xs ys r e f fits others is =
    let d = slice_eq-Decides booleans_Decides xs ys _ refl in
    subst (λ x. MaskFits x n → IsTrue r ↔ KeepAlike x k n) (sym e)
    (λ h. subst (λ y. MaskFits y n → IsTrue r ↔ KeepAlike (Some xs) y n) f
    (λ g.
    let both = kept_same xs ys n h g in
    (λ t. both.0 (d.0 (sym is ∙ t)), λ p. is ∙ d.1 (both.1 p))) others)
    fits

-- ---- arrays without a value

without_value : (a : ArrayTree) (i : ℕ) → lacks_values a ≡ true → is_value (leaf_slot a i) ≡ false
without_value (null_array t n) i h = refl
without_value (leaf_array t vs m) i h = absurd (true≢false (sym h))
without_value (list_array t os c m) i h = refl
without_value (fixed_list_array t w n c m) i h = refl
without_value (struct_array t cs m) i h = refl
without_value (dictionary_array t ks c m) i h = absurd (true≢false (sym h))

unset_at : (n i : ℕ) → i < n → get_or (replicate n false) i true ≡ false
unset_at zero i l = absurd (omega (arith, l))
unset_at (suc n) zero l = refl
unset_at (suc n) (suc i) l = unset_at n i (omega (arith, l))

length_of : (n : ℕ) → length (replicate n false) ≡ n
length_of zero = refl
length_of (suc n) = omega (arith, length_of n)

and_false : (b v : Bool) → v ≡ false → (b && v) ≡ false
and_false true v e = e
and_false false v e = refl

nowhere : (a : ArrayTree) → ((i : ℕ) → is_value (leaf_slot a i) ≡ false) → IsValueMask a (Some (replicate (tree_len a) false))
nowhere a h = (length_of (tree_len a), λ i l. unset_at (tree_len a) i l ∙ sym (and_false (keeps (mask_of a) i) (is_value (leaf_slot a i)) (h i)))

pub lacking_mask : (a : ArrayTree) → lacks_values a ≡ true → IsValueMask a (Some (replicate (tree_len a) false))
lacking_mask a h = nowhere a (λ i. without_value a i h)

pub valued_mask : (a : ArrayTree) → is_valued a ≡ true → IsValueMask a None
valued_mask (null_array t n) h i l e = absurd (true≢false (sym h))
valued_mask (leaf_array t vs m) h i l e = refl
valued_mask (list_array t os c m) h i l e = absurd (true≢false (sym h))
valued_mask (fixed_list_array t w n c m) h i l e = absurd (true≢false (sym h))
valued_mask (struct_array t cs m) h i l e = absurd (true≢false (sym h))
valued_mask (dictionary_array t ks c m) h i l e = absurd (true≢false (sym h))

pub lacking_holds : (a : ArrayTree) → lacks_values a ≡ true → holds_values a ≡ false
lacking_holds (null_array t n) h = refl
lacking_holds (leaf_array t vs m) h = absurd (true≢false (sym h))
lacking_holds (list_array t os c m) h = refl
lacking_holds (fixed_list_array t w n c m) h = refl
lacking_holds (struct_array t cs m) h = refl
lacking_holds (dictionary_array t ks c m) h = absurd (true≢false (sym h))

pub valued_holds : (a : ArrayTree) → is_valued a ≡ true → holds_values a ≡ true
valued_holds (null_array t n) h = absurd (true≢false (sym h))
valued_holds (leaf_array t vs m) h = refl
valued_holds (list_array t os c m) h = absurd (true≢false (sym h))
valued_holds (fixed_list_array t w n c m) h = absurd (true≢false (sym h))
valued_holds (struct_array t cs m) h = absurd (true≢false (sym h))
valued_holds (dictionary_array t ks c m) h = absurd (true≢false (sym h))

-- ---- dictionaries

-- what an entry is seen as
entry_value : (s : Slot) → is_value (along (at_leaf true) s) ≡ is_value s
unfolding along
entry_value null = refl
entry_value (value v) = refl
entry_value (items ss) = refl
entry_value (fields ss) = refl

kept_value : (m : Mask) (i : ℕ) (s : Slot) → is_value (masked m i s) ≡ (keeps m i && is_value s)
kept_value m i s = by (keeps m i)
  where
    by : (b : Bool) → is_value (cond b s null) ≡ (b && is_value s)
    by true = refl
    by false = refl

unless_null : (b : Bool) (s : Slot) → is_value s ≡ not (is_null s) → is_value (cond b s null) ≡ not (is_null (cond b s null))
unless_null true s h = h
unless_null false s h = refl

not_kept : (b : Bool) (s : Slot) → is_value s ≡ false → is_value (cond b s null) ≡ false
not_kept true s h = h
not_kept false s h = refl

-- where slots are values or null
value_unless_null : (a : ArrayTree) (i : ℕ) → holds_values a ≡ true → is_value (slot_at a i) ≡ not (is_null (slot_at a i))
value_unless_null (null_array t n) i h = absurd (true≢false (sym h))
value_unless_null (leaf_array t vs m) i h = unless_null (keeps m i) (value (leaf_at vs i)) refl
value_unless_null (list_array t os c m) i h = absurd (true≢false (sym h))
value_unless_null (fixed_list_array t w n c m) i h = absurd (true≢false (sym h))
value_unless_null (struct_array t cs m) i h = absurd (true≢false (sym h))
value_unless_null (dictionary_array t ks c m) i h = unless_null (keeps m i) (slot_at c (entry_at ks i)) (value_unless_null c (entry_at ks i) h)

never_value : (a : ArrayTree) (i : ℕ) → holds_values a ≡ false → is_value (slot_at a i) ≡ false
never_value (null_array t n) i h = refl
never_value (leaf_array t vs m) i h = absurd (true≢false h)
never_value (list_array t os c m) i h = not_kept (keeps m i) (items (slots_of (slots_from (slot_at c) (first_of os i) (count_of os i)))) refl
never_value (fixed_list_array t w n c m) i h = not_kept (keeps m i) (items (slots_of (slots_from (slot_at c) (i * w) w))) refl
never_value (struct_array t cs m) i h = not_kept (keeps m i) (fields (slots_at cs i)) refl
never_value (dictionary_array t ks c m) i h = not_kept (keeps m i) (slot_at c (entry_at ks i)) (never_value c (entry_at ks i) h)

null_front : (f : ℕ → Slot) (a n : ℕ) → count_by is_null (slots_from f a (suc n)) ≡ cond (is_null (f a)) 1 0 + count_by is_null (slots_from f (a + 1) n)
unfolding slots_from
null_front f a n = sum_by-cons (λ s. cond (is_null s) 1 0) (f a) (slots_from f (a + 1) n)

first_present : (b : Bool) (n : ℕ) → cond b 1 0 + n ≡ 0 → b ≡ false
first_present true n h = absurd (omega (arith, h))
first_present false n h = refl

null_counted : (f : ℕ → Slot) (a n : ℕ) → count_by is_null (slots_from f a n) ≡ 0 → (i : ℕ) → i < n → is_null (f (a + i)) ≡ false
null_counted f a zero h i l = absurd (omega (arith, l))
null_counted f a (suc n) h zero l = rw (add-zero a) (first_present (is_null (f a)) (count_by is_null (slots_from f (a + 1) n)) (sym (null_front f a n) ∙ h))
null_counted f a (suc n) h (suc i) l =
    let p : a + 1 + i ≡ a + suc i = omega arith in
    let rest : count_by is_null (slots_from f (a + 1) n) ≡ 0 = omega (arith, h, null_front f a n) in
    rw (← p) (null_counted f (a + 1) n rest i (omega (arith, l)))

present_table : (f : ℕ → Slot) (b n i : ℕ) → i < n → get_or (map (λ s. not (is_null s)) (slots_from f b n)) i true ≡ not (is_null (f (b + i)))
unfolding slots_from
present_table f b zero i l = absurd (omega (arith, l))
present_table f b (suc n) zero l = rw (add-zero b) refl
present_table f b (suc n) (suc i) l =
    let p : b + 1 + i ≡ b + suc i = omega arith in
    rw (← p) (present_table f (b + 1) n i (omega (arith, l)))

present_at : (a : ArrayTree) (i : ℕ) → i < tree_len a → keeps (Some (present_slots a)) i ≡ not (is_null (slot_at a i))
present_at a i l = present_table (slot_at a) 0 (tree_len a) i l ∙ ap (λ k. not (is_null (slot_at a k))) (zero-add i)

module _ (a : ArrayTree) (is : a ≡ dictionary_array (type_of a) (keys_in a) (child_of a) (mask_of a)) where
  keyed_slot : (i : ℕ) → is_value (leaf_slot a i) ≡ is_value (slot_at (child_of a) (entry_at (keys_in a) i))
  keyed_slot i = ap (λ b. is_value (leaf_slot b i)) is ∙ entry_value (slot_at (child_of a) (entry_at (keys_in a) i))

  keyed_at : (i : ℕ) → is_value (slot_at a i) ≡ (keeps (mask_of a) i && is_value (leaf_slot a i))
  keyed_at i =
      ap (λ b. is_value (slot_at b i)) is ∙ kept_value (mask_of a) i (slot_at (child_of a) (entry_at (keys_in a) i))
      ∙ ap (λ v. keeps (mask_of a) i && v) (sym (keyed_slot i))

  pub keyed_nowhere : holds_values (child_of a) ≡ false → IsValueMask a (Some (replicate (tree_len a) false))
  keyed_nowhere h = nowhere a (λ i. keyed_slot i ∙ never_value (child_of a) (entry_at (keys_in a) i) h)

  pub keyed_stays : IsSound a → holds_values (child_of a) ≡ true → null_slots (child_of a) ≡ 0 → IsValueMask a None
  keyed_stays s h none i l k =
      let sound : IsSound (dictionary_array (type_of a) (keys_in a) (child_of a) (mask_of a)) = subst IsSound is s in
      let len : tree_len a ≡ length (keys_in a) = ap tree_len is in
      let e = entry_at (keys_in a) i in
      let within : e < tree_len (child_of a) = (sound.3 i (omega (arith, l, len)) k).1 in
      let present : is_null (slot_at (child_of a) e) ≡ false = rw (zero-add e) at (null_counted (slot_at (child_of a)) 0 (tree_len (child_of a)) none e within) in
      keyed_slot i ∙ value_unless_null (child_of a) e h ∙ ap not present

  pub keyed_present : holds_values (child_of a) ≡ true → IsValueMask a (Some (present_slots a))
  keyed_present h =
      let holds : holds_values a ≡ true = ap holds_values is ∙ h in
      (length-map (slots a) (λ s. not (is_null s)) ∙ slots_counted a, λ i l. present_at a i l ∙ sym (value_unless_null a i holds) ∙ keyed_at i)

-- ---- a table that grows

grown : (f : ℕ → Slot) (a n : ℕ) → slots_from f a (suc n) ≡ slots_from f a n ++ f (a + n) ∷ []
unfolding slots_from
grown f a zero = rw (add-zero a) refl
grown f a (suc n) =
    let p : a + 1 + n ≡ a + suc n = omega arith in
    ap (λ r. f a ∷ r) (grown f (a + 1) n ∙ ap (λ k. slots_from f (a + 1) n ++ f k ∷ []) p)

pub present_more : (f : ℕ → Slot) (i : ℕ) (bits : List Bool) → bits ≡ map (λ s. not (is_null s)) (slots_from f 0 i)
    → bits ++ not (is_null (f i)) ∷ [] ≡ map (λ s. not (is_null s)) (slots_from f 0 (i + 1))
present_more f i bits h =
    rw (add-one i, grown f 0 i, zero-add i)
    (ap (λ bs. bs ++ not (is_null (f i)) ∷ []) h ∙ sym (map-append (λ s. not (is_null s)) (slots_from f 0 i) (f i ∷ [])))

pub present_none : (f : ℕ → Slot) → [] ≡ map (λ s. not (is_null s)) (slots_from f 0 0)
unfolding slots_from
present_none f = refl

-- what an empty mask was made of
pub empty_is : (a : ArrayTree) (n : ℕ) (r : Result (Option (List Bool)) Error) → n ≡ tree_len a → IsValueMask a (Some (replicate (tree_len a) false)) → IfOk r (λ m. m ≡ Some (replicate n false)) → IfOk r (IsValueMask a)
empty_is a n (Ok m) e h k = subst (IsValueMask a) (sym (k ∙ ap (λ j. Some (replicate j false)) e)) h
empty_is a n (Err x) e h k = tt
