-- The rows of the sample are rows of its schema, and those of its arrays.
use Rattle.std.specs.Fmt.{decimal}
use Rattle.std.specs.List.{range_with_len, AllByRecursion}
use Rattle.std.proofs.Common.{◌≡◌, ◌==◌, ℕ, zero, suc, pos, ◌+◌, ◌%◌, ◌≤◌, ◌<◌, ◌^◌, true, false, cond, All, List, [], ◌∷◌, map, get_or, add-zero, zero-add, refl, ap, sym, subst, ◌∙◌, arith}
use Rattle.std.proofs.lemmas.Fmt.{IsAscii-decimal}
use Rattle.std.proofs.lemmas.Str.{IsUtf8-from_ascii}
use Rattle.std.proofs.lemmas.List.Elements.{All-from_recursion}
use Rattle.std.proofs.lemmas.List.FromFn.{get_or-map-range_with_len}
use Rattle.std.proofs.lemmas.Nat.{mod_below}
use Rattle.shredding.specs.Parts.{slots_from}
use Rattle.shredding.specs.Shape.{AreOf, IsOf, leaf, list, signed, text}
use Rattle.shredding.specs.Slot.{Slot, null, value, items, number, bytes, Slots, slots_of, list_of}
use Rattle.columns_core.specs.Shapes.{shapes_of}
use Rattle.columns_core.specs.Tree.{TypeTree}
use Rattle.columns_slots.specs.Slots.{AreTyped, first_len, slot_at, slots_at, tree_len}
use Rattle.columns_slots.specs.Tree.{ArrayTree, ArrayTrees, no_arrays, more_arrays}
use Rattle.pq_headline.specs.Arrays.{rows_from, rows_of}
use Rattle.sample_rows.proofs.Chunks.{column_len}
use Rattle.sample_rows.specs.Columns.{AreColumns, IsColumn}
use Rattle.sample_rows.specs.Fields.{sample_fields}
use Rattle.sample_rows.specs.Rows.{id_slot, item_slot, items_slot, sample_row, sample_rows, tag_slot}

-- ---- rows of the schema
each_from : (P : Slots → Type 0) (at : ℕ → Slots) (a n : ℕ) → ((i : ℕ) → i < a + n → P (at i)) → AllByRecursion P (map at (range_with_len a n))
each_from P at a zero h = tt
each_from P at a (suc n) h = (h a (omega arith), each_from P at (a + 1) n (λ i l. h i (omega (arith, l))))

slot_each : (P : Slot → Type 0) (at : ℕ → Slot) (a n : ℕ) → ((i : ℕ) → i < a + n → P (at i)) → AllByRecursion P (map at (range_with_len a n))
slot_each P at a zero h = tt
slot_each P at a (suc n) h = (h a (omega arith), slot_each P at (a + 1) n (λ i l. h i (omega (arith, l))))

list_of-slots_of : (ss : List Slot) → list_of (slots_of ss) ≡ ss
list_of-slots_of [] = refl
list_of-slots_of (s ∷ ss) = ap (λ r. s ∷ r) (list_of-slots_of ss)

item_is : (m : ℕ) → m < 2 ^ 31 → IsOf (leaf true (signed 32)) (item_slot m)
item_is m h = elim (m % 7 == 0) as (λ b. IsOf (leaf true (signed 32)) (cond b null (value (number (pos m))))) [ true ↦ refl | false ↦ h ]

items_all : (i : ℕ) → i < 1000000 → All (IsOf (leaf true (signed 32))) (list_of (slots_of (map item_slot (range_with_len i (i % 4)))))
items_all i h =
    subst (All (IsOf (leaf true (signed 32)))) (sym (list_of-slots_of (map item_slot (range_with_len i (i % 4)))))
    (All-from_recursion (IsOf (leaf true (signed 32))) (map item_slot (range_with_len i (i % 4))) (slot_each (IsOf (leaf true (signed 32))) item_slot i (i % 4) (λ j l. item_is j (omega (arith, l, h, mod_below i 4 (omega arith))))))

row_is : (i : ℕ) → i < 1000000 → AreOf (shapes_of sample_fields) (sample_row i)
row_is i h = (
  omega (arith, h),
  (
    elim (i % 3 == 0) as (λ b. IsOf (leaf true text) (cond b null (value (bytes (decimal i))))) [ true ↦ refl | false ↦ IsUtf8-from_ascii (decimal i) (IsAscii-decimal i (omega (arith, h))) ],
    (
      elim (i % 5 == 0) as (λ b. IsOf (list true (leaf true (signed 32))) (cond b null (items (slots_of (map item_slot (range_with_len i (i % 4))))))) [ true ↦ refl | false ↦ items_all i h ],
      tt,
    ),
  ),
)

pub rows_are : (n : ℕ) → n ≤ 1000000 → All (AreOf (shapes_of sample_fields)) (sample_rows n)
rows_are n h = All-from_recursion (AreOf (shapes_of sample_fields)) (sample_rows n) (each_from (AreOf (shapes_of sample_fields)) sample_row 0 n (λ i l. row_is i (omega (arith, l, h))))

-- ---- rows of the arrays
nth : (f : ℕ → Slot) (a n i : ℕ) → i < n → get_or (slots_from f a n) i null ≡ f (a + i)
unfolding slots_from
nth f a zero i h = absurd (omega (arith, h))
nth f a (suc n) zero h = ap f (sym (add-zero a))
nth f a (suc n) (suc i) h = nth f (a + 1) n i (omega (arith, h)) ∙ ap f (omega arith)

column_at : (t : TypeTree) (at : ℕ → Slot) (n : ℕ) (a : ArrayTree) (i : ℕ) → IsColumn t at n a → i < n → slot_at a i ≡ at i
column_at t at n a i h l =
    let long : i < tree_len a = rw (column_len t at n a h) l in
    ap (slot_at a) (sym (zero-add i)) ∙ sym (nth (slot_at a) 0 (tree_len a) i long) ∙ ap (λ ss. get_or ss i null) h.slots_are ∙ get_or-map-range_with_len at 0 n i i null l (omega arith)

rows_table : (cs : ArrayTrees) (a n : ℕ) → ((i : ℕ) → i < a + n → slots_at cs i ≡ sample_row i) → rows_from cs a n ≡ map sample_row (range_with_len a n)
rows_table cs a zero h = refl
rows_table cs a (suc n) h = rw (h a (omega arith), rows_table cs (a + 1) n (λ i l. h i (omega (arith, l)))) refl

pub rows_of_columns : (n : ℕ) (cs : ArrayTrees) → AreColumns n cs → rows_of cs ≡ sample_rows n
rows_of_columns n no_arrays h = absurd h
rows_of_columns n (more_arrays a no_arrays) h = absurd h
rows_of_columns n (more_arrays a (more_arrays b no_arrays)) h = absurd h
rows_of_columns n (more_arrays a (more_arrays b (more_arrays c no_arrays))) h =
    let cs = more_arrays a (more_arrays b (more_arrays c no_arrays)) in
    rw (column_len _ _ n a h.0)
    (rows_table cs 0 n (λ i l.
    let m : i < n = omega (arith, l) in
    rw (column_at _ id_slot n a i h.0 m, column_at _ tag_slot n b i h.1 m, column_at _ items_slot n c i h.2 m) refl))
rows_of_columns n (more_arrays a (more_arrays b (more_arrays c (more_arrays d ds)))) h = absurd h

pub columns_len : (n : ℕ) (cs : ArrayTrees) → AreColumns n cs → first_len cs ≡ n
columns_len n no_arrays h = absurd h
columns_len n (more_arrays a no_arrays) h = absurd h
columns_len n (more_arrays a (more_arrays b no_arrays)) h = absurd h
columns_len n (more_arrays a (more_arrays b (more_arrays c no_arrays))) h = column_len _ _ n a h.0
columns_len n (more_arrays a (more_arrays b (more_arrays c (more_arrays d ds)))) h = absurd h

pub columns_typed : (n : ℕ) (cs : ArrayTrees) → AreColumns n cs → AreTyped sample_fields cs
columns_typed n no_arrays h = absurd h
columns_typed n (more_arrays a no_arrays) h = absurd h
columns_typed n (more_arrays a (more_arrays b no_arrays)) h = absurd h
columns_typed n (more_arrays a (more_arrays b (more_arrays c no_arrays))) h = (sym h.0.typed, (sym h.1.typed, (sym h.2.typed, tt)))
columns_typed n (more_arrays a (more_arrays b (more_arrays c (more_arrays d ds)))) h = absurd h
