-- A page of a cut path is one of the cut rows.
use Rattle.std.proofs.Common.{◌≡◌, ℕ, zero, suc, ◌+◌, List, [], ◌∷◌, ◌++◌, take, drop, length, Bool, Option, ap, refl, subst, ◌∙◌, arith}
use Rattle.std.proofs.lemmas.List.{take_all}
use Rattle.shredding.specs.Parts.{Part, path_slots, slots_from, slot_count}
use Rattle.shredding.specs.Shape.{LeafType, Way}
use Rattle.shredding.specs.Shred.{column}
use Rattle.shredding.specs.Slot.{Slot}
use Rattle.columns_slots.specs.Slots.{cut, type_of}
use Rattle.columns_slots.specs.Tree.{ArrayTree, null_array, leaf_array, list_array, fixed_list_array, struct_array, dictionary_array}
use Rattle.levels.specs.declared.nested.Nested.{Nested}
use Rattle.levels.specs.InBounds.{bounded_slot, bounded_slots}
use Rattle.nested_paths.specs.Laws.{CutLeavesAreSeen}
use Rattle.nested_paths.specs.Seen.{leaf_slot}
use Rattle.nested_slice.specs.CutPath.{leaf_rows}
use Rattle.nested_slice.specs.Laws.{IsReadAsCut}
use Rattle.page_statistics.specs.Stated.{AreStated}
use Rattle.pq_tree.specs.Footers.{ChunkStatistics}
use Rattle.pq_tree.specs.Physical.{Physical}
use Rattle.write_pages.specs.Holds.{rows_of}
use Rattle.write_pages.specs.Sized.{AreMeasured}

pub type_cut : (a : ArrayTree) (o n : ℕ) → type_of (cut a o n) ≡ type_of a
type_cut (null_array t k) o n = refl
type_cut (leaf_array t vs m) o n = refl
type_cut (list_array t os c m) o n = refl
type_cut (fixed_list_array t w k c m) o n = refl
type_cut (struct_array t cs m) o n = refl
type_cut (dictionary_array t ks c m) o n = refl

pub front_is : (s t : List Nested) (n : ℕ) → n ≡ length s → take n (s ++ t) ≡ s
front_is s t n e = rw e (front s t)
  where
    front : (s t : List Nested) → take (length s) (s ++ t) ≡ s
    front [] t = refl
    front (x ∷ s) t = ap (λ (r : List Nested). x ∷ r) (front s t)

-- what the cut array and path are read as
pub rows_cut : (a b : ArrayTree) (old new : List Part) (o n : ℕ) → CutLeavesAreSeen → b ≡ cut a (leaf_rows old o n).0 (leaf_rows old o n).1 → IsReadAsCut old new o n → path_slots (leaf_slot b) new ≡ take n (drop o (rows_of old a))
rows_cut a b old new o n law e read =
    read (leaf_slot a) (leaf_slot b) (λ i h. ap (λ (x : ArrayTree). leaf_slot x i) e ∙ law a (leaf_rows old o n).0 (leaf_rows old o n).1 i h)

pub measured_moved : (t t' : LeafType) (p : Physical) (w w' : Way) (rows rows' : List Slot) (n : ℕ) → t ≡ t' → w ≡ w' → rows ≡ rows' → AreMeasured t p w rows n → AreMeasured t' p w' rows' n
measured_moved t t' p w w' rows rows' n a d e h =
    subst (λ (x : LeafType). AreMeasured x p w' rows' n) a (subst (λ (x : Way). AreMeasured t p x rows' n) d (subst (λ (x : List Slot). AreMeasured t p w x n) e h))

pub stated_moved : (wanted : Bool) (t t' : LeafType) (p : Physical) (w w' : Way) (rows rows' : List Slot) (stated : Option ChunkStatistics) → t ≡ t' → w ≡ w' → rows ≡ rows' → AreStated wanted t p (column w rows) stated → AreStated wanted t' p (column w' rows') stated
stated_moved wanted t t' p w w' rows rows' stated a d e h =
    subst (λ (x : LeafType). AreStated wanted x p (column w' rows') stated) a (subst (λ (x : Way). AreStated wanted t p (column x rows') stated) d (subst (λ (x : List Slot). AreStated wanted t p (column w x) stated) e h))

length-slots_from : (at : ℕ → Slot) (place count : ℕ) → length (slots_from at place count) ≡ count
unfolding slots_from
length-slots_from at place zero = refl
length-slots_from at place (suc count) = ap suc (length-slots_from at (place + 1) count)

pub rows_counted : (parts : List Part) (a : ArrayTree) → length (rows_of parts a) ≡ slot_count parts
unfolding bounded_slots
rows_counted parts a = length-slots_from (bounded_slot (leaf_slot a) parts) 0 (slot_count parts)

pub all_rows : (parts : List Part) (a : ArrayTree) (n : ℕ) → n ≡ slot_count parts → take n (drop 0 (rows_of parts a)) ≡ rows_of parts a
all_rows parts a n e = take_all n (rows_of parts a) (omega (arith, e, rows_counted parts a))
