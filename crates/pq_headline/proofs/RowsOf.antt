-- The rows of arrays.
use Rattle.std.proofs.Common.{◌≡◌, ◌+◌, ◌<◌, ◌≤◌, ℕ, zero, suc, List, [], ◌∷◌, ◌++◌, length, map, flat_map, All, get_or, refl, sym, ap, subst, ◌∙◌, arith}
use Rattle.std.proofs.lemmas.List.{map-append}
use Rattle.std.proofs.lemmas.List.Elements.{All-append, All-cons, All-nil}
use Rattle.shredding.specs.Parts.{slots_from}
use Rattle.shredding.specs.Shape.{AreOf}
use Rattle.shredding.specs.Slot.{Slot, null, Slots, slot_at as row_slot}
use Rattle.columns_core.specs.Shapes.{IsSlotOf, shapes_of}
use Rattle.columns_core.specs.Tree.{FieldTree, FieldTrees, no_fields, more_fields}
use Rattle.columns_slots.specs.Slots.{slots, slot_at, slots_at, tree_len, first_len}
use Rattle.columns_slots.specs.Tree.{ArrayTree, ArrayTrees, no_arrays, more_arrays}
use Rattle.pq_headline.specs.Arrays.{array_at, rows_from, rows_of}
use Rattle.pq_headline.specs.Rows.{field_slots}

at_place : (i : ℕ) (cs : ArrayTrees) (p : ℕ) → row_slot (slots_at cs p) i ≡ slot_at (array_at i cs) p
at_place i no_arrays p = refl
at_place zero (more_arrays c cs) p = refl
at_place (suc i) (more_arrays c cs) p = at_place i cs p

-- the slots of a field in the rows of arrays are those of the array at its place
field_from : (i : ℕ) (cs : ArrayTrees) (p n : ℕ) → field_slots i (rows_from cs p n) ≡ slots_from (slot_at (array_at i cs)) p n
unfolding slots_from
field_from i cs p zero = refl
field_from i cs p (suc n) = ap (λ s. s ∷ field_slots i (rows_from cs (p + 1) n)) (at_place i cs p) ∙ ap (λ ss. slot_at (array_at i cs) p ∷ ss) (field_from i cs (p + 1) n)

pub field_of : (i : ℕ) (cs : ArrayTrees) → tree_len (array_at i cs) ≡ first_len cs → field_slots i (rows_of cs) ≡ slots (array_at i cs)
field_of i cs e = field_from i cs 0 (first_len cs) ∙ ap (λ n. slots_from (slot_at (array_at i cs)) 0 n) (sym e)

length_from : (cs : ArrayTrees) (p n : ℕ) → length (rows_from cs p n) ≡ n
length_from cs p zero = refl
length_from cs p (suc n) = ap suc (length_from cs (p + 1) n)

pub length_rows : (cs : ArrayTrees) → length (rows_of cs) ≡ first_len cs
length_rows cs = length_from cs 0 (first_len cs)

-- ---- several chunks

-- the array at a place is as long as the others, in each chunk
abbrev pub AreLong : ℕ → List ArrayTrees → Type 0
AreLong i [] = Unit {0}
AreLong i (cs ∷ chunks) = (tree_len (array_at i cs) ≡ first_len cs) × AreLong i chunks

abbrev pub all_rows : List ArrayTrees → List Slots
all_rows chunks = flat_map rows_of chunks

pub field_of_all : (i : ℕ) (chunks : List ArrayTrees) → AreLong i chunks → field_slots i (all_rows chunks) ≡ flat_map slots (map (array_at i) chunks)
field_of_all i [] h = refl
field_of_all i (cs ∷ chunks) h =
    map-append (λ row. row_slot row i) (rows_of cs) (all_rows chunks)
    ∙ ap (λ s. s ++ field_slots i (all_rows chunks)) (field_of i cs h.0)
    ∙ ap (λ s. slots (array_at i cs) ++ s) (field_of_all i chunks h.1)

-- ---- rows of fields

abbrev pub AreSlots : FieldTrees → ArrayTrees → ℕ → Type 0
AreSlots no_fields no_arrays n = Unit {0}
AreSlots (more_fields f fs) (more_arrays c cs) n = All (IsSlotOf f) (slots c) × (tree_len c ≡ n) × AreSlots fs cs n
AreSlots _ _ n = ⊥

get_slot : (f : ℕ → Slot) (a n k : ℕ) (d : Slot) → k < n → get_or (slots_from f a n) k d ≡ f (a + k)
unfolding slots_from
get_slot f a zero k d h = absurd (omega arith)
get_slot f a (suc n) zero d h = let e : a ≡ a + 0 = omega arith in ap f e
get_slot f a (suc n) (suc k) d h = let e : a + 1 + k ≡ a + suc k = omega arith in get_slot f (a + 1) n k d (omega arith) ∙ ap f e

length_slots : (f : ℕ → Slot) (a n : ℕ) → length (slots_from f a n) ≡ n
unfolding slots_from
length_slots f a zero = refl
length_slots f a (suc n) = ap suc (length_slots f (a + 1) n)

slot_is : (f : FieldTree) (c : ArrayTree) (p : ℕ) → All (IsSlotOf f) (slots c) → p < tree_len c → IsSlotOf f (slot_at c p)
slot_is f c p h lt =
    let at : IsSlotOf f (get_or (slots c) p null) = h p null (omega (arith, length_slots (slot_at c) 0 (tree_len c))) in
    subst (IsSlotOf f) (get_slot (slot_at c) 0 (tree_len c) p null lt ∙ ap (slot_at c) (omega arith)) at

row_is : (fs : FieldTrees) (cs : ArrayTrees) (n p : ℕ) → AreSlots fs cs n → p < n → AreOf (shapes_of fs) (slots_at cs p)
row_is no_fields no_arrays n p h lt = tt
row_is no_fields (more_arrays c cs) n p h lt = absurd h
row_is (more_fields f fs) no_arrays n p h lt = absurd h
row_is (more_fields f fs) (more_arrays c cs) n p h lt = (slot_is f c p h.0 (omega (arith, h.1)), row_is fs cs n p h.2 lt)

rows_are_from : (fs : FieldTrees) (cs : ArrayTrees) (n p count : ℕ) → AreSlots fs cs n → p + count ≤ n → All (AreOf (shapes_of fs)) (rows_from cs p count)
rows_are_from fs cs n p zero h lt = All-nil (AreOf (shapes_of fs))
rows_are_from fs cs n p (suc count) h lt =
    All-cons (AreOf (shapes_of fs)) (slots_at cs p) (rows_from cs (p + 1) count) (row_is fs cs n p h (omega arith)) (rows_are_from fs cs n (p + 1) count h (omega arith))

pub rows_are : (fs : FieldTrees) (cs : ArrayTrees) → AreSlots fs cs (first_len cs) → All (AreOf (shapes_of fs)) (rows_of cs)
rows_are fs cs h = rows_are_from fs cs (first_len cs) 0 (first_len cs) h (omega arith)

-- of each chunk
abbrev pub AreAllSlots : FieldTrees → List ArrayTrees → Type 0
AreAllSlots fs [] = Unit {0}
AreAllSlots fs (cs ∷ chunks) = AreSlots fs cs (first_len cs) × AreAllSlots fs chunks

pub all_rows_are : (fs : FieldTrees) (chunks : List ArrayTrees) → AreAllSlots fs chunks → All (AreOf (shapes_of fs)) (all_rows chunks)
all_rows_are fs [] h = All-nil (AreOf (shapes_of fs))
all_rows_are fs (cs ∷ chunks) h = All-append (AreOf (shapes_of fs)) (rows_of cs) (all_rows chunks) (rows_are fs cs h.0) (all_rows_are fs chunks h.1)
