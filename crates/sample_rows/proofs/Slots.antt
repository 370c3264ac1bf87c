-- The slots of the sample's arrays.
use Rattle.std.specs.Fmt.{decimal}
use Rattle.std.specs.List.{range_with_len}
use Rattle.std.proofs.Common.{◌≡◌, ◌==◌, ℕ, ℤ, zero, suc, pos, ◌+◌, ◌-◌, ◌%◌, ◌≤◌, ◌<◌, Bool, true, false, cond, not, List, [], ◌∷◌, length, map, take, flat_map, get_or, Some, None, add-zero, add-one, refl, ap, sym, subst, ◌∙◌, arith}
use Rattle.std.proofs.Math.Nat.{mod-eq_of_lt}
use Rattle.std.proofs.lemmas.List.{length-append, length-map, get_or-map}
use Rattle.std.proofs.lemmas.List.Concat.{get_or-flat_map}
use Rattle.std.proofs.lemmas.List.FromFn.{length-map-range_with_len, get_or-map-range_with_len}
use Rattle.std.proofs.lemmas.Nat.{mod_below}
use Rattle.std.proofs.lemmas.Simd.{map-map}
use Rattle.shredding.specs.Parts.{slots_from}
use Rattle.shredding.specs.Slot.{Value, truth, number, bytes, Slot, null, value, items, slots_of}
use Rattle.columns_core.specs.Natives.{value_i32, value_i64}
use Rattle.columns_core.specs.Rising.{places_from}
use Rattle.columns_core.specs.Tree.{TypeTree, t_int32, t_int64, t_utf8}
use Rattle.columns_leaf.proofs.Texts.{step_of_places}
use Rattle.columns_slots.specs.Bytes.{pieces, pieces_values}
use Rattle.columns_slots.specs.Slots.{masked, leaf_at, first_of, count_of, slot_at}
use Rattle.columns_slots.specs.Tree.{Mask, leaf_array, list_array}
use Rattle.sample_rows.specs.Columns.{IsColumn}
use Rattle.sample_rows.specs.Fields.{items_type}
use Rattle.sample_rows.specs.Parts.{AreItems, AreStrung, has_list, has_tag, is_kept, item_array, item_count, item_marks, item_numbers, tag_text}
use Rattle.sample_rows.specs.Rows.{each_row, id_slot, item_slot, items_slot, tag_slot}
use Rattle.sample_rows.proofs.Strung.{length-places, strung_places}

slots_table : (f g : ℕ → Slot) (a b n : ℕ) → ((i : ℕ) → i < n → f (a + i) ≡ g (b + i)) → slots_from f a n ≡ map g (range_with_len b n)
unfolding slots_from
slots_table f g a b zero e = refl
slots_table f g a b (suc n) e =
    let here : f a ≡ g b = subst (λ k. f k ≡ g b) (add-zero a) (subst (λ k. f (a + 0) ≡ g k) (add-zero b) (e 0 (omega arith))) in
    rw (
      here,
      slots_table f g (a + 1) (b + 1) n (λ i h. let p : a + suc i ≡ a + 1 + i = omega arith in let q : b + suc i ≡ b + 1 + i = omega arith in
          subst (λ k. f k ≡ g (b + 1 + i)) p (subst (λ k. f (a + suc i) ≡ g k) q (e (suc i) (omega (arith, h))))),
    ) refl

-- the same from the first place on
row_table : (f g : ℕ → Slot) (n m : ℕ) → m ≡ n → ((i : ℕ) → i < n → f i ≡ g i) → slots_from f 0 m ≡ each_row g n
row_table f g n m s e =
    rw s (slots_table f g 0 0 n (λ i h. let z : 0 + i ≡ i = omega arith in rw z (e i h)))

-- a leaf array of a value for each row
leaf_table :
    (t : TypeTree) (vs : List Value) (v : ℕ → Value) (m : Mask) (g : ℕ → Slot) (n : ℕ)
    → vs ≡ each_row v n → ((i : ℕ) → i < n → masked m i (value (v i)) ≡ g i) → IsColumn t g n (leaf_array t vs m)
leaf_table t vs v m g n e h = record {
  typed = refl;
  slots_are = row_table (slot_at (leaf_array t vs m)) g n (length vs) (ap length e ∙ length-map-range_with_len v 0 n) (λ i l.
      let at : leaf_at vs i ≡ v i = ap (λ xs. leaf_at xs i) e ∙ get_or-map-range_with_len v 0 n i i (truth false) l (omega arith) in
      ap (λ x. masked m i (value x)) at ∙ h i l);
}

-- ---- ids
pub ids_are : (n : ℕ) → n ≤ 1000000 → IsColumn t_int64 id_slot n (leaf_array t_int64 (map (value_i64 t_int64) (each_row pos n)) None)
ids_are n h =
    leaf_table t_int64 (map (value_i64 t_int64) (each_row pos n)) (λ i. value_i64 t_int64 (pos i)) None id_slot n (map-map (value_i64 t_int64) pos (range_with_len 0 n)) (λ i l.
    ap (λ k. value (number (pos k))) (mod-eq_of_lt (omega (arith, l, h))))

-- ---- tags
tag_masked : (i : ℕ) (b : Bool) → b ≡ (i % 3 == 0) → cond (not b) (value (bytes (cond b [] (decimal i)))) null ≡ cond b null (value (bytes (decimal i)))
tag_masked i true e = refl
tag_masked i false e = refl

pub tags_are :
    (os bs : List ℕ) (n : ℕ) → pieces os bs ≡ each_row tag_text n → IsColumn t_utf8 tag_slot n (leaf_array t_utf8 (pieces_values os bs) (Some (each_row has_tag n)))
tags_are os bs n h =
    leaf_table t_utf8 (pieces_values os bs) (λ i. bytes (tag_text i)) (Some (each_row has_tag n)) tag_slot n (ap (map bytes) h ∙ map-map bytes tag_text (range_with_len 0 n)) (λ i l.
    ap (λ b. cond b (value (bytes (tag_text i))) null) (get_or-map-range_with_len has_tag 0 n i i true l (omega arith)) ∙ tag_masked i (i % 3 == 0) refl)

-- ---- items

-- where a part begins, and how long it is
counts : {A : Type 0} (o : ℕ) (parts : List (List A)) (k : ℕ) → k < length parts
    → get_or (o ∷ places_from o (map length parts)) (suc k) 0 ≡ get_or (o ∷ places_from o (map length parts)) k 0 + length (get_or parts k [])
counts o [] k h = absurd (omega (arith, h))
counts o (p ∷ ps) zero h = refl
counts o (p ∷ ps) (suc k) h = counts (o + length p) ps k (omega (arith, h))

firsts : {A : Type 0} (o : ℕ) (parts : List (List A)) (k : ℕ) → k ≤ length parts
    → get_or (o ∷ places_from o (map length parts)) k 0 ≡ o + length (flat_map (λ part. part) (take k parts))
firsts o parts zero h = omega arith
firsts o [] (suc k) h = absurd (omega (arith, h))
firsts o (p ∷ ps) (suc k) h =
    firsts (o + length p) ps k (omega (arith, h)) ∙ omega (arith, length-append p (flat_map (λ part. part) (take k ps)))

strung_count : {A : Type 0} (parts : List (List A)) (os : List ℕ) (xs : List A) (k : ℕ) → AreStrung parts os xs → k < length parts → count_of os k ≡ length (get_or parts k [])
strung_count parts os xs k h l =
    rw (h.offsets_are, add-one k) (omega (arith, counts 0 parts k l))

strung_at :
    {A : Type 0} (parts : List (List A)) (os : List ℕ) (xs : List A) (k j : ℕ) (d : A)
    → AreStrung parts os xs → k < length parts → j < length (get_or parts k []) → get_or xs (first_of os k + j) d ≡ get_or (get_or parts k []) j d
strung_at parts os xs k j d h l m =
    let f : first_of os k ≡ length (flat_map (λ part. part) (take k parts)) = rw (h.offsets_are) (omega (arith, firsts 0 parts k (omega (arith, l)))) in
    rw (f, h.all_are) (get_or-flat_map (λ part. part) parts k j [] d l m)

-- the same of what each row has
row_count : {A : Type 0} (at : ℕ → List A) (n : ℕ) (os : List ℕ) (xs : List A) (k : ℕ) → AreStrung (each_row at n) os xs → k < n → count_of os k ≡ length (at k)
row_count at n os xs k h l =
    let long : k < length (each_row at n) = rw (length-map-range_with_len at 0 n) l in
    strung_count (each_row at n) os xs k h long ∙ ap length (get_or-map-range_with_len at 0 n k k [] l (omega arith))

row_at :
    {A : Type 0} (at : ℕ → List A) (n : ℕ) (os : List ℕ) (xs : List A) (k j : ℕ) (d : A)
    → AreStrung (each_row at n) os xs → k < n → j < length (at k) → get_or xs (first_of os k + j) d ≡ get_or (at k) j d
row_at at n os xs k j d h l m =
    let here : get_or (each_row at n) k [] ≡ at k = get_or-map-range_with_len at 0 n k k [] l (omega arith) in
    let long : k < length (each_row at n) = rw (length-map-range_with_len at 0 n) l in
    strung_at (each_row at n) os xs k j d h long (rw here m) ∙ ap (λ part. get_or part j d) here

row_within : {A : Type 0} (at : ℕ → List A) (n : ℕ) (os : List ℕ) (xs : List A) (k j : ℕ) → AreStrung (each_row at n) os xs → k < n → j < length (at k) → first_of os k + j < length xs
row_within at n os xs k j h l m =
    let long : k + 1 < length os = rw h.offsets_are (omega (arith, l, length-places 0 (map length (each_row at n)), length-map (each_row at n) length, length-map-range_with_len at 0 n)) in
    let s = step_of_places os (length xs) k (strung_places (each_row at n) os xs h) long in
    omega (arith, s.0, s.1, row_count at n os xs k h l, m)

mark_masked : (m : ℕ) (b : Bool) → b ≡ (m % 7 == 0) → cond (not b) (value (number (pos m))) null ≡ cond b null (value (number (pos m)))
mark_masked m true e = refl
mark_masked m false e = refl

item_at :
    (n : ℕ) (os : List ℕ) (xs : List ℤ) (ms : List Bool) (k j : ℕ)
    → n ≤ 1000000 → AreItems n os xs ms → k < n → j < item_count k → item_count k ≤ 3 → slot_at (item_array xs ms) (first_of os k + j) ≡ item_slot (k + j)
item_at n os xs ms k j b h l m few =
    let a : j < length (item_numbers k) = rw (length-map-range_with_len pos k (item_count k)) m in
    let c : j < length (item_marks k) = rw (length-map-range_with_len is_kept k (item_count k)) m in
    let p = first_of os k + j in
    let x : get_or xs p (pos 0) ≡ pos (k + j) = row_at item_numbers n os xs k j (pos 0) h.numbers_are l a ∙ get_or-map-range_with_len pos k (item_count k) j (k + j) (pos 0) m refl in
    let y : get_or ms p true ≡ is_kept (k + j) = row_at item_marks n os ms k j true h.marks_are l c ∙ get_or-map-range_with_len is_kept k (item_count k) j (k + j) true m refl in
    let v : leaf_at (map (value_i32 t_int32) xs) p ≡ number (pos (k + j)) =
    get_or-map (value_i32 t_int32) xs p (pos 0) (truth false) (row_within item_numbers n os xs k j h.numbers_are l a) ∙ ap (value_i32 t_int32) x ∙ ap (λ q. number (pos q)) (mod-eq_of_lt (omega (arith, l, b, m, few))) in
    rw (y, v) (mark_masked (k + j) ((k + j) % 7 == 0) refl)

few_items : (k : ℕ) → item_count k ≤ 3
few_items k = elim (k % 5 == 0) as (λ b. cond b 0 (k % 4) ≤ 3) [ true ↦ omega arith | false ↦ omega (arith, mod_below k 4 (omega arith)) ]

list_masked :
    (n : ℕ) (os : List ℕ) (xs : List ℤ) (ms : List Bool) (k : ℕ) (b : Bool)
    → n ≤ 1000000 → AreItems n os xs ms → k < n → b ≡ (k % 5 == 0)
    → cond (not b) (items (slots_of (slots_from (slot_at (item_array xs ms)) (first_of os k) (count_of os k)))) null
    ≡ cond b null (items (slots_of (map item_slot (range_with_len k (k % 4)))))
list_masked n os xs ms k true h a l e = refl
list_masked n os xs ms k false h a l e =
    let all : item_count k ≡ k % 4 = ap (λ b. cond b 0 (k % 4)) (sym e) in
    let c : count_of os k ≡ k % 4 = row_count item_numbers n os xs k a.numbers_are l ∙ length-map-range_with_len pos k (item_count k) ∙ all in
    ap (λ ss. items (slots_of ss)) (rw c (slots_table (slot_at (item_array xs ms)) item_slot (first_of os k) k (k % 4) (λ j m. item_at n os xs ms k j h a l (rw all m) (few_items k))))

pub items_are :
    (n : ℕ) (os : List ℕ) (xs : List ℤ) (ms : List Bool) → n ≤ 1000000 → AreItems n os xs ms
    → IsColumn items_type items_slot n (list_array items_type os (item_array xs ms) (Some (each_row has_list n)))
items_are n os xs ms h a = record {
  typed = refl;
  slots_are =
      let c : length os - 1 ≡ n =
      rw (a.numbers_are.offsets_are) (omega (arith, length-places 0 (map length (each_row item_numbers n)), length-map (each_row item_numbers n) length, length-map-range_with_len item_numbers 0 n)) in
      row_table (slot_at (list_array items_type os (item_array xs ms) (Some (each_row has_list n)))) items_slot n (length os - 1) c (λ k l.
      ap (λ b. cond b (items (slots_of (slots_from (slot_at (item_array xs ms)) (first_of os k) (count_of os k)))) null) (get_or-map-range_with_len has_list 0 n k k true l (omega arith))
      ∙ list_masked n os xs ms k (k % 5 == 0) h a l refl);
}
