-- Present items, one slot more.
use Rattle.std.specs.List.{range_with_len}
use Rattle.std.proofs.lemmas.Nat.{mod_below}
use Rattle.std.proofs.Common.{◌≡◌, ◌==◌, ◌%◌, ◌*◌, ◌≤◌, cond, map, ℕ, ℤ, zero, suc, pos, ◌+◌, ◌+ℤ◌, fold, true, false, List, [], ◌∷◌, ◌++◌, flat_map, length, add-zero, refl, ap, sym, subst, ◌∙◌, arith}
use Rattle.std.proofs.lemmas.Grind.{flat_map-append}
use Rattle.std.proofs.Math.IntN.{+ℤ_assoc, +ℤ_idl, +ℤ_idr}
use Rattle.std.proofs.lemmas.List.{append-nil, append_assoc, length-append}
use Rattle.shredding.specs.Parts.{keeps, slots_from}
use Rattle.shredding.specs.Slot.{Slot, null, value, number, items, slots_of, list_of}
use Rattle.columns_slots.specs.Slots.{child_of, count_of, first_of, mask_of, offsets_of, slot_at, type_of}
use Rattle.columns_slots.specs.Tree.{ArrayTree, list_array}
use Rattle.sample_rows.specs.Present.{ItemsAddUp, both, items_of, number_in, numbers_in, present, total}
use Rattle.sample_rows.specs.Rows.{each_row, item_slot, items_slot}
use Rattle.sample_rows.specs.Totals.{AreOf, totals_view}
use Rattle.sample_rows.specs.declared.totals.Totals.{Totals}

pub slots_more : (f : ℕ → Slot) (a n : ℕ) → slots_from f a (n + 1) ≡ slots_from f a n ++ f (a + n) ∷ []
unfolding slots_from
slots_more f a zero = ap (λ k. f k ∷ []) (sym (add-zero a))
slots_more f a (suc n) =
    let e : a + 1 + n ≡ a + suc n = omega arith in
    let s : suc n + 1 ≡ suc (n + 1) = omega arith in
    rw (s) (ap (λ r. f a ∷ r) (slots_more f (a + 1) n ∙ ap (λ k. slots_from f (a + 1) n ++ f k ∷ []) e))

-- what a function makes of slots from a place on, one slot more
made_more : (h : Slot → List ℤ) (f : ℕ → Slot) (a n : ℕ) → flat_map h (slots_from f a (n + 1)) ≡ flat_map h (slots_from f a n) ++ h (f (a + n))
made_more h f a n = rw (slots_more f a n, flat_map-append h (slots_from f a n) (f (a + n) ∷ [])) (ap (λ r. flat_map h (slots_from f a n) ++ r) (append-nil (h (f (a + n)))))

pub record Adds (h : Slot → List ℤ) (f : ℕ → Slot) (a n : ℕ) (old new : Totals) : Type 0 where
  pub are : (zs : List ℤ) → AreOf old zs → AreOf new (zs ++ flat_map h (slots_from f a n))

pub adds_none : (h : Slot → List ℤ) (f : ℕ → Slot) (a : ℕ) (t : Totals) → Adds h f a 0 t t
unfolding slots_from
adds_none h f a t = record { are = λ zs z. subst (AreOf t) (sym (append-nil zs)) z }

pub adds_more :
    (h : Slot → List ℤ) (f : ℕ → Slot) (a n : ℕ) (old t new : Totals)
    → Adds h f a n old t → ((zs : List ℤ) → AreOf t zs → AreOf new (zs ++ h (f (a + n)))) → Adds h f a (n + 1) old new
adds_more h f a n old t new p q = record {
  are = λ zs z.
      subst (AreOf new) (append_assoc zs (flat_map h (slots_from f a n)) (h (f (a + n))) ∙ ap (λ r. zs ++ r) (sym (made_more h f a n))) (q (zs ++ flat_map h (slots_from f a n)) (p.are zs z));
}

list_of-slots_of : (ss : List Slot) → list_of (slots_of ss) ≡ ss
list_of-slots_of [] = refl
list_of-slots_of (s ∷ ss) = ap (λ r. s ∷ r) (list_of-slots_of ss)

-- the numbers of a list
list_numbers :
    (a c : ArrayTree) (row : ℕ) → a ≡ list_array (type_of a) (offsets_of a) (child_of a) (mask_of a) → keeps (mask_of a) row ≡ true → c ≡ child_of a
    → numbers_in (slot_at a row) ≡ flat_map number_in (slots_from (slot_at c) (first_of (offsets_of a) row) (count_of (offsets_of a) row))
list_numbers a c row e k h =
    ap (λ x. numbers_in (slot_at x row)) e ∙ rw (k, h) (ap (flat_map number_in) (list_of-slots_of (slots_from (slot_at (child_of a)) (first_of (offsets_of a) row) (count_of (offsets_of a) row))))

pub list_numbers_at :
    (a c : ArrayTree) (row first count : ℕ) → a ≡ list_array (type_of a) (offsets_of a) (child_of a) (mask_of a) → keeps (mask_of a) row ≡ true → c ≡ child_of a
    → first ≡ first_of (offsets_of a) row → count ≡ count_of (offsets_of a) row → numbers_in (slot_at a row) ≡ flat_map number_in (slots_from (slot_at c) first count)
list_numbers_at a c row first count e k h p q =
    list_numbers a c row e k h ∙ ap (λ n. flat_map number_in (slots_from (slot_at c) n (count_of (offsets_of a) row))) (sym p) ∙ ap (λ n. flat_map number_in (slots_from (slot_at c) first n)) (sym q)

pub null_numbers :
    (a : ArrayTree) (row : ℕ) → a ≡ list_array (type_of a) (offsets_of a) (child_of a) (mask_of a) → keeps (mask_of a) row ≡ false → numbers_in (slot_at a row) ≡ []
null_numbers a row e k = ap (λ x. numbers_in (slot_at x row)) e ∙ rw k refl

pub nothing_more : (t : Totals) (zs ns : List ℤ) → ns ≡ [] → AreOf t zs → AreOf t (zs ++ ns)
nothing_more t zs ns e h = rw (e, append-nil zs) h

pub totals_are : (t : Totals) (ss : List Slot) → AreOf t (present ss) → totals_view t ≡ items_of ss
totals_are t ss h = rw (h.counted, h.added) refl

-- ---- lists counted in parts
total_append : (xs ys : List ℤ) (a : ℤ) → fold ◌+ℤ◌ a (xs ++ ys) ≡ fold ◌+ℤ◌ (fold ◌+ℤ◌ a xs) ys
total_append [] ys a = refl
total_append (x ∷ xs) ys a = total_append xs ys (a +ℤ x)

total_from : (ys : List ℤ) (a : ℤ) → fold ◌+ℤ◌ a ys ≡ a +ℤ total ys
total_from [] a = sym (+ℤ_idr a)
total_from (y ∷ ys) a =
    total_from ys (a +ℤ y) ∙ +ℤ_assoc a y (total ys) ∙ ap (λ r. a +ℤ r) (sym (total_from ys (pos 0 +ℤ y) ∙ ap (λ r. r +ℤ total ys) (+ℤ_idl y)))

pub items_add_up : ItemsAddUp
items_add_up a b =
    let p : present (a ++ b) ≡ present a ++ present b = flat_map-append numbers_in a b in
    let c : length (present (a ++ b)) ≡ length (present a) + length (present b) = rw p (length-append (present a) (present b)) in
    let s : total (present (a ++ b)) ≡ total (present a) +ℤ total (present b) = rw p (total_append (present a) (present b) (pos 0) ∙ total_from (present b) (total (present a))) in
    rw (c, s) refl

-- numbers of both
pub both_are : (t u v : Totals) (xs ys : List ℤ) → totals_view v ≡ both (totals_view t) (totals_view u) → AreOf t xs → AreOf u ys → AreOf v (xs ++ ys)
both_are t u v xs ys e a b = record {
  counted = ap (λ i. i.count) e ∙ rw (a.counted, b.counted) (sym (length-append xs ys));
  added = ap (λ i. i.sum) e ∙ rw (a.added, b.added) (sym (total_append xs ys (pos 0) ∙ total_from ys (total xs)));
}

pub are_of : (t : Totals) (ss : List Slot) → totals_view t ≡ items_of ss → AreOf t (present ss)
are_of t ss e = record { counted = ap (λ i. i.count) e; added = ap (λ i. i.sum) e }

-- no row of the sample has more than three items
number_few : (m : ℕ) → length (number_in (item_slot m)) ≤ 1
number_few m = elim (m % 7 == 0) as (λ b. length (number_in (cond b null (value (number (pos m))))) ≤ 1) [ true ↦ omega arith | false ↦ omega arith ]

numbers_few : (a n : ℕ) → length (numbers_in (items (slots_of (map item_slot (range_with_len a n))))) ≤ n
numbers_few a zero = omega arith
numbers_few a (suc n) =
    omega (arith, length-append (number_in (item_slot a)) (numbers_in (items (slots_of (map item_slot (range_with_len (a + 1) n))))), number_few a, numbers_few (a + 1) n)

row_few : (i : ℕ) → length (numbers_in (items_slot i)) ≤ 3
row_few i =
    elim (i % 5 == 0) as (λ b. length (numbers_in (cond b null (items (slots_of (map item_slot (range_with_len i (i % 4))))))) ≤ 3) [
      | true ↦ omega arith
      | false ↦ omega (arith, numbers_few i (i % 4), mod_below i 4 (omega arith))
    ]

rows_few : (a n : ℕ) → length (present (map items_slot (range_with_len a n))) ≤ 3 * n
rows_few a zero = omega arith
rows_few a (suc n) =
    omega (arith, length-append (numbers_in (items_slot a)) (present (map items_slot (range_with_len (a + 1) n))), row_few a, rows_few (a + 1) n)

pub few_sampled : (n : ℕ) → length (present (each_row items_slot n)) ≤ 3 * n
few_sampled n = rows_few 0 n
