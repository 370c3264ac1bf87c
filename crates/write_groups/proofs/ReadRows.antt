-- Rows of a schema are read as they are.
use Rattle.std.proofs.Common.{◌≡◌, ◌<◌, ◌≤◌, ℕ, zero, suc, ◌+◌, List, [], ◌∷◌, length, All, get_or, refl, sym, ap, subst, ◌∙◌, arith}
use Rattle.std.specs.List.{AllByRecursion as Each}
use Rattle.std.proofs.lemmas.List.Elements.{All-from_recursion, recursion_from_All}
use Rattle.shredding.specs.Parts.{slots_from}
use Rattle.shredding.specs.Shape.{Shape, Shapes, shape, IsOf, AreOf}
use Rattle.shredding.specs.Slot.{Slot, null, Slots, no_slots, slot, slot_at as row_slot}
use Rattle.columns_core.specs.Shapes.{shapes_of, type_shape}
use Rattle.columns_core.specs.Tree.{TypeTree, field, FieldTrees, no_fields, more_fields}
use Rattle.columns_slots.specs.Slots.{slots, slot_at, slots_at, tree_len, first_len, AreSound, AreTyped, type_of}
use Rattle.columns_slots.specs.Tree.{ArrayTree, ArrayTrees, no_arrays, more_arrays}
use Rattle.nested_paths.specs.Seen.{read_all, read_by}
use Rattle.pq_headline.proofs.RowsOf.{field_of, length_rows}
use Rattle.pq_headline.specs.Arrays.{array_at, rows_from, rows_of}
use Rattle.pq_headline.specs.Rows.{field_slots}
use Rattle.schema_to_tree.specs.Table.{trees_of}
use Rattle.typed_arrays.specs.Typed.{TypedSlotsAreRead, node}
use Rattle.write_groups.proofs.Groups.{read_first, read_len}
use Rattle.write_groups.specs.Laid.{RowsAreRead}

-- ---- the slots of a field are slots of the field

head_of : Slots → Slot
head_of no_slots = null
head_of (slot s ss) = s

rest_of : Slots → Slots
rest_of no_slots = no_slots
rest_of (slot s ss) = ss

first_at : (ss : Slots) → row_slot ss 0 ≡ head_of ss
unfolding head_of
first_at no_slots = refl
first_at (slot s ss) = refl

later_at : (ss : Slots) (j : ℕ) → row_slot ss (suc j) ≡ row_slot (rest_of ss) j
unfolding rest_of
later_at no_slots j = refl
later_at (slot s ss) j = refl

first_is : (f : Shape) (fs : Shapes) (ss : Slots) → AreOf (shape f fs) ss → IsOf f (row_slot ss 0)
first_is f fs no_slots h = absurd h
first_is f fs (slot s ss) h = h.0

rest_are : (f : Shape) (fs : Shapes) (ss : Slots) → AreOf (shape f fs) ss → AreOf fs (rest_of ss)
unfolding rest_of
rest_are f fs no_slots h = absurd h
rest_are f fs (slot s ss) h = h.1

each_rest : (f : Shape) (fs : Shapes) (at : Slots → Slots) (rows : List Slots) → Each (λ row. AreOf (shape f fs) (at row)) rows → Each (λ row. AreOf fs (rest_of (at row))) rows
each_rest f fs at [] h = tt
each_rest f fs at (r ∷ rows) h = (rest_are f fs (at r) h.0, each_rest f fs at rows h.1)

each_first : (f : Shape) (fs : Shapes) (at : Slots → Slots) (place : ℕ) (rows : List Slots) → ((row : Slots) → row_slot row place ≡ row_slot (at row) 0) → Each (λ row. AreOf (shape f fs) (at row)) rows → Each (IsOf f) (field_slots place rows)
each_first f fs at place [] e h = tt
each_first f fs at place (r ∷ rows) e h = (subst (IsOf f) (sym (e r)) (first_is f fs (at r) h.0), each_first f fs at place rows e h.1)

-- ---- one array

get_slot : (f : ℕ → Slot) (a n k : ℕ) → k < n → get_or (slots_from f a n) k null ≡ f (a + k)
unfolding slots_from
get_slot f a zero k h = absurd (omega arith)
get_slot f a (suc n) zero h = let e : a ≡ a + 0 = omega arith in ap f e
get_slot f a (suc n) (suc k) h = let e : a + 1 + k ≡ a + suc k = omega arith in get_slot f (a + 1) n k (omega arith) ∙ ap f e

slot_of : (a : ArrayTree) (q : ℕ) → q < tree_len a → get_or (slots a) q null ≡ slot_at a q
slot_of a q h = get_slot (slot_at a) 0 (tree_len a) q h ∙ ap (slot_at a) (omega arith)

-- arrays of the same slots have each of them in its place
same_slot : (a b : ArrayTree) (q : ℕ) → slots a ≡ slots b → q < tree_len a → q < tree_len b → slot_at a q ≡ slot_at b q
same_slot a b q e h k = sym (slot_of a q h) ∙ (ap (λ (ss : List Slot). get_or ss q null) e ∙ slot_of b q k)

-- ---- field after field

each_read : TypedSlotsAreRead → (rows : List Slots) (fs : FieldTrees) (cs : ArrayTrees) (place : ℕ) (at : Slots → Slots) → AreTyped fs cs → AreSound (length rows) cs
    → ((row : Slots) (j : ℕ) → row_slot row (place + j) ≡ row_slot (at row) j) → Each (λ row. AreOf (shapes_of fs) (at row)) rows → ((j : ℕ) → tree_len (array_at j cs) ≡ length rows → field_slots (place + j) rows ≡ slots (array_at j cs))
    → (q : ℕ) → q < length rows → slots_at (read_all cs (trees_of fs)) q ≡ slots_at cs q
each_read read rows no_fields no_arrays place at typed sound e are own q lt = refl
each_read read rows (more_fields (field name t b md) fs) (more_arrays c cs) place at typed sound e are own q lt =
    let here : place + 0 ≡ place = omega arith in
    let mine_are : field_slots place rows ≡ slots c = ap (λ (n : ℕ). field_slots n rows) (sym here) ∙ own 0 sound.1 in
    let of_field : Each (IsOf (type_shape b t)) (field_slots place rows) = each_first (type_shape b t) (shapes_of fs) at place rows (λ one. ap (row_slot one) (sym here) ∙ e one 0) are in
    let all : All (IsOf (type_shape b (type_of c))) (slots c) = subst (λ (x : TypeTree). All (IsOf (type_shape b x)) (slots c)) typed.0 (All-from_recursion (IsOf (type_shape b t)) (slots c) (subst (Each (IsOf (type_shape b t))) mine_are of_field)) in
    let same : slots (read_by c (node name b t)) ≡ slots c = subst (λ (x : TypeTree). slots (read_by c (node name b x)) ≡ slots c) (sym typed.0) (read c name b sound.0 all) in
    let first : slot_at (read_by c (node name b t)) q ≡ slot_at c q = same_slot (read_by c (node name b t)) c q same (omega (arith, lt, sound.1, read_len c (node name b t))) (omega (arith, lt, sound.1)) in
    let rest = each_read read rows fs cs (suc place) (λ row. rest_of (at row)) typed.1 sound.2
    (λ row j. ap (row_slot row) (next place j) ∙ (e row (suc j) ∙ later_at (at row) j)) (each_rest (type_shape b t) (shapes_of fs) at rows are)
    (λ j k. ap (λ (n : ℕ). field_slots n rows) (next place j) ∙ own (suc j) k) q lt in
    λ i. slot (first i) (rest i)
  where
    next : (place j : ℕ) → suc place + j ≡ place + suc j
    next place j = omega arith
each_read read rows no_fields (more_arrays c cs) place at typed sound e are own q lt = absurd typed
each_read read rows (more_fields (field x t y z) fs) no_arrays place at typed sound e are own q lt = absurd typed

same_rows : (xs ys : ArrayTrees) (p n : ℕ) → ((q : ℕ) → p ≤ q → q < p + n → slots_at xs q ≡ slots_at ys q) → rows_from xs p n ≡ rows_from ys p n
same_rows xs ys p zero h = refl
same_rows xs ys p (suc n) h =
    let first : slots_at xs p ≡ slots_at ys p = h p (omega arith) (omega arith) in
    let rest : rows_from xs (p + 1) n ≡ rows_from ys (p + 1) n = same_rows xs ys (p + 1) n (λ q l r. h q (omega (arith, l)) (omega (arith, r))) in
    λ i. first i ∷ rest i

pub rows_read : TypedSlotsAreRead → RowsAreRead
rows_read read fs cs typed sound are =
    let rows = rows_of cs in
    let n : length rows ≡ first_len cs = length_rows cs in
    let each = each_read read rows fs cs 0 (λ row. row) typed (subst (λ (k : ℕ). AreSound k cs) (sym n) sound) (λ row j. ap (row_slot row) (omega arith)) (recursion_from_All (AreOf (shapes_of fs)) rows are)
    (λ j q. ap (λ (k : ℕ). field_slots k rows) (omega arith) ∙ field_of j cs (q ∙ n)) in
    ap (rows_from (read_all cs (trees_of fs)) 0) (read_first cs (trees_of fs)) ∙ same_rows (read_all cs (trees_of fs)) cs 0 (first_len cs) (λ q l r. each q (omega (arith, n, r)))
