-- The cut of a path stands for the cut rows.
use Rattle.std.proofs.Common.{◌≡◌, ℕ, ◌+◌, ◌-◌, ◌≤◌, ◌<◌, Bool, true, false, List, [], ◌∷◌, length, take, drop, Option, None, add-zero, zero-add, refl, ap, sym, subst, ◌∙◌, arith}
use Rattle.std.specs.Prelude.{slice_index}
use Rattle.shredding.specs.Slot.{Slot}
use Rattle.shredding.specs.Parts.{Part, leaf_part, list_part, struct_part, is_present, item_start, item_count, slot_count, slots_from, slot_in, path_slots}
use Rattle.columns_core.specs.Rising.{IsRising}
use Rattle.columns_slots.specs.Tree.{ArrayTree}
use Rattle.columns_slots.specs.Slots.{slot_at, tree_len, cut, cut_mask, IsSound}
use Rattle.columns_slots.proofs.Rows.{is_cut}
use Rattle.columns_slots.proofs.Sound.{keeps_cut}
use Rattle.levels.specs.InBounds.{AreWithin, IsInBounds, bounded_slot, bounded_slots}
use Rattle.nested_slice.specs.CutPath.{cut_parts, leaf_rows, AreRising}
use Rattle.nested_slice.specs.Laws.{CutsAreRows}
use Rattle.nested_slice.proofs.Tables.{same_table, table_at, cut_table}
use Rattle.nested_slice.proofs.Paths.{place_cut, later_place, rows_beneath, rows_cut, path_cut, way_cut, leaf_cut, leaf_mask_cut, leaf_within}

present_cut : (b : Bool) (m : Option (List Bool)) (o n i : ℕ) → i < n → is_present b (cut_mask m o n) i ≡ is_present b m (o + i)
present_cut true m o n i h = keeps_cut m o n i h
present_cut false m o n i h = refl

start_cut : (os : List ℕ) (o n i : ℕ) → i ≤ n → item_start (take (n + 1) (drop o os)) i ≡ slice_index os (o + i) - slice_index os o
start_cut os o n i h =
    let here : slice_index (take (n + 1) (drop o os)) i ≡ slice_index os (o + i) = place_cut os o n i h in
    let first : slice_index (take (n + 1) (drop o os)) 0 ≡ slice_index os (o + 0) = place_cut os o n 0 (omega arith) in
    rw (here, first, add-zero o) refl

count_cut : (os : List ℕ) (o n i : ℕ) → IsRising os → o + n ≤ length os - 1 → i < n → item_count (take (n + 1) (drop o os)) i ≡ slice_index os (o + i + 1) - slice_index os (o + i)
count_cut os o n i r h l =
    let p : o + (i + 1) ≡ o + i + 1 = omega arith in
    let next : item_start (take (n + 1) (drop o os)) (i + 1) ≡ slice_index os (o + i + 1) - slice_index os o = rw (← p) (start_cut os o n (i + 1) (omega (arith, l))) in
    let here = start_cut os o n i (omega (arith, l)) in
    let up : slice_index os o ≤ slice_index os (o + i) = rw (add-zero o) at (later_place os o 0 i r (omega arith) (omega (arith, h, l))) in
    omega (arith, next, here, up)

-- the items of list i of the cut, where the rows beneath are those of the cut
items_cut : (f g : ℕ → Slot) (os : List ℕ) (o n i : ℕ) → IsRising os → o + n ≤ length os - 1 → i < n
    → ((j : ℕ) → j < slice_index os (o + n) - slice_index os o → f j ≡ g (slice_index os o + j))
    → slots_from f (item_start (take (n + 1) (drop o os)) i) (item_count (take (n + 1) (drop o os)) i) ≡ slots_from g (slice_index os (o + i)) (slice_index os (o + i + 1) - slice_index os (o + i))
items_cut f g os o n i r h l e =
    let up : slice_index os o ≤ slice_index os (o + i) = rw (add-zero o) at (later_place os o 0 i r (omega arith) (omega (arith, h, l))) in
    let p : o + (i + 1) ≡ o + i + 1 = omega arith in
    let top : slice_index os (o + i + 1) ≤ slice_index os (o + n) = rw (← p) (later_place os o (i + 1) n r (omega (arith, l)) h) in
    rw (count_cut os o n i r h l, start_cut os o n i (omega (arith, l)))
    (same_table f g (slice_index os (o + i) - slice_index os o) (slice_index os (o + i)) (slice_index os (o + i + 1) - slice_index os (o + i))
    (λ j k.
    let q : slice_index os o + (slice_index os (o + i) - slice_index os o + j) ≡ slice_index os (o + i) + j = omega (arith, up) in
    e (slice_index os (o + i) - slice_index os o + j) (omega (arith, up, top, k)) ∙ ap g q))

slot_cut : (parts : List Part) (o n : ℕ) (whole part : ℕ → Slot) → AreWithin parts → AreRising parts → o + n ≤ slot_count parts
    → ((i : ℕ) → i < (leaf_rows parts o n).1 → part i ≡ whole ((leaf_rows parts o n).0 + i)) → (i : ℕ) → i < n → slot_in part (cut_parts parts o n) i ≡ bounded_slot whole parts (o + i)
unfolding slot_in bounded_slot
slot_cut [] o n whole part w r h e i l = refl
slot_cut (leaf_part b m k ∷ []) o n whole part w r h e i l = rw (present_cut b m o n i l, e i l) refl
slot_cut (leaf_part b m k ∷ p ∷ parts) o n whole part w r h e i l = absurd (omega (arith, w.0.1))
slot_cut (list_part b m os ∷ parts) o n whole part w r h e i l =
    let more = rows_beneath os o n (slot_count parts) r.0 w.0.1 h in
    rw (
      present_cut b m o n i l,
      items_cut (slot_in part (cut_parts parts (slice_index os o) (slice_index os (o + n) - slice_index os o))) (bounded_slot whole parts) os o n i r.0 h l
          (slot_cut parts (slice_index os o) (slice_index os (o + n) - slice_index os o) whole part w.1 r.1 more e),
    ) refl
slot_cut (struct_part b m k ∷ parts) o n whole part w r h e i l =
    rw (present_cut b m o n i l, slot_cut parts o n whole part w.1 r.1 (omega (arith, w.0.1, h)) e i l) refl

slots_cut : (parts : List Part) (o n : ℕ) (whole part : ℕ → Slot) → IsInBounds parts → AreRising parts → o + n ≤ slot_count parts
    → ((i : ℕ) → i < (leaf_rows parts o n).1 → part i ≡ whole ((leaf_rows parts o n).0 + i)) → path_slots part (cut_parts parts o n) ≡ take n (drop o (bounded_slots whole parts))
unfolding path_slots bounded_slots
slots_cut parts o n whole part b r h e =
    let z : 0 + o ≡ o = zero-add o in
    rw (rows_cut parts o n b.some r h)
    (same_table (slot_in part (cut_parts parts o n)) (bounded_slot whole parts) 0 o n (λ i l. rw (zero-add i) (slot_cut parts o n whole part b.fits r h e i l))
    ∙ sym (cut_table (bounded_slot whole parts) 0 (slot_count parts) o n h ∙ ap (λ j. slots_from (bounded_slot whole parts) j n) z))

pub cuts_are_rows : CutsAreRows
cuts_are_rows parts o n b r h =
    record {
      path = path_cut parts o n b r h;
      rows = rows_cut parts o n b.some r h;
      way = way_cut parts o n;
      leaf = leaf_cut parts 0 o n b.some b.fits;
      mask = leaf_mask_cut parts None None o n b.some b.fits;
      within = leaf_within parts 0 o n b.some b.fits r h;
      slots = λ whole part e. slots_cut parts o n whole part b r h e;
    }

-- a cut of an array has the slots of the array from the first position on
pub array_cut : (a : ArrayTree) (o n : ℕ) → IsSound a → o + n ≤ tree_len a → (i : ℕ) → i < n → slot_at (cut a o n) i ≡ slot_at a (o + i)
array_cut a o n s h i l =
    let whole = is_cut a o n s h in
    let len : tree_len (cut a o n) ≡ n = whole.len in
    let z : 0 + o ≡ o = zero-add o in
    let same : slots_from (slot_at (cut a o n)) 0 n ≡ slots_from (slot_at a) o n =
    subst (λ k. slots_from (slot_at (cut a o n)) 0 k ≡ slots_from (slot_at a) o n) len
    (whole.slots_are ∙ cut_table (slot_at a) 0 (tree_len a) o n h ∙ ap (λ j. slots_from (slot_at a) j n) z) in
    subst (λ k. slot_at (cut a o n) k ≡ slot_at a (o + i)) (zero-add i) (table_at (slot_at (cut a o n)) (slot_at a) 0 o n same i l)
