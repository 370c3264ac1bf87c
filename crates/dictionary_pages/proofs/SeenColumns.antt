-- The column of the path whose nulls are those that are seen.
use Rattle.std.proofs.Common.{◌≡◌, ℕ, ◌<◌, ◌≤◌, true, List, [], ◌∷◌, length, map, All, ap, sym, subst, ◌∙◌, arith}
use Rattle.std.specs.List.{AllByRecursion as Each}
use Rattle.std.proofs.lemmas.List.Elements.{All-from_recursion, recursion_from_All}
use Rattle.shredding.specs.Parts.{Part, path_slots, path_way}
use Rattle.shredding.specs.Shape.{LeafType, IsInRange, Way}
use Rattle.shredding.specs.Shred.{Triple, column}
use Rattle.shredding.specs.Slot.{value}
use Rattle.columns_core.specs.Shapes.{base, leaf_type}
use Rattle.columns_slots.specs.Slots.{IsSound, child_of, type_of}
use Rattle.columns_slots.specs.Tree.{ArrayTree}
use Rattle.levels.specs.declared.nested.Nested.{Nested}
use Rattle.levels.specs.Nested.{parts_of, nested_column}
use Rattle.nested_paths.specs.LeafNulls.{is_value, value_at}
use Rattle.nested_paths.specs.Seen.{leaf_slot}
use Rattle.pq_tree.specs.Physical.{Physical}
use Rattle.pq_files.specs.Layout.{plain_length}
use Rattle.pq_files.specs.Page.{values_in}
use Rattle.pq_files.specs.Room.{room, max_size}
use Rattle.pq_files.specs.Stored.{AreStored}
use Rattle.write_places.specs.Places.{path_places}
use Rattle.write_places.proofs.Values.{values_are_at_places}
use Rattle.dictionary_pages.specs.Entries.{is_entry}
use Rattle.dictionary_pages.specs.Leaves.{NamesValue}
use Rattle.dictionary_pages.specs.Pages.{IsPastRoom}
use Rattle.dictionary_pages.specs.Seen.{IsSeenPath}
use Rattle.dictionary_pages.proofs.EntryTypes.{is_entry_kind}
use Rattle.dictionary_pages.proofs.Named.{Over, names_value}
use Rattle.dictionary_pages.proofs.StoredSizes.{stored_length, values_once}

pub column_is : (a : ArrayTree) (old : List Part) (nested : List Nested) → IsSeenPath a old (parts_of nested) → nested_column (value_at a) nested ≡ column (path_way old) (path_slots (leaf_slot a) old)
column_is a old nested s = ap (λ (w : Way). column w (path_slots (λ i. value (value_at a i)) (parts_of nested))) s.way ∙ ap (column (path_way old)) s.slots

-- each key that it reaches names a value
pub all_named : (a : ArrayTree) (o : Over a) (p : Physical) → IsSound a → is_entry (base (type_of (child_of a))) p ≡ true → (old : List Part) (nested : List Nested) → IsSeenPath a old (parts_of nested)
    → All (IsInRange (leaf_type (type_of a))) (values_in (column (path_way old) (path_slots (leaf_slot a) old))) → All (NamesValue a) (path_places (parts_of nested))
all_named a o p sound are old nested s r =
    let places = path_places (parts_of nested) in
    let vs : values_in (column (path_way old) (path_slots (leaf_slot a) old)) ≡ map (value_at a) places = ap values_in (sym (column_is a old nested s)) ∙ values_are_at_places (value_at a) nested in
    let ranged : Each (IsInRange (leaf_type (type_of a))) (map (value_at a) places) = recursion_from_All (IsInRange (leaf_type (type_of a))) (map (value_at a) places) (subst (All (IsInRange (leaf_type (type_of a)))) vs r) in
    All-from_recursion (NamesValue a) places (each places (recursion_from_All (λ i. is_value (leaf_slot a i) ≡ true) places s.values) ranged)
  where
    each : (is : List ℕ) → Each (λ i. is_value (leaf_slot a i) ≡ true) is → Each (IsInRange (leaf_type (type_of a))) (map (value_at a) is) → Each (NamesValue a) is
    each [] h k = tt
    each (i ∷ is) h k = (names_value a o p sound are i h.0 k.0, each is h.1 k.1)

-- ---- the room

pub past_room : (t : LeafType) (p : Physical) (ts stored : List Triple) → AreStored t p ts stored → max_size < room (length stored) (plain_length p (values_in stored)) → IsPastRoom t p ts
past_room t p ts stored h k = (stored, h, omega (arith, k, stored_length t p ts stored h))

pub not_past_room : (t : LeafType) (p : Physical) (ts stored : List Triple) → is_entry_kind t ≡ true → AreStored t p ts stored → room (length stored) (plain_length p (values_in stored)) ≤ max_size → IsPastRoom t p ts → ⊥
not_past_room t p ts stored k h fits past =
    let same : plain_length p (values_in stored) ≡ plain_length p (values_in past.0) = ap (plain_length p) (values_once t p ts stored past.0 k h past.1) in
    omega (arith, fits, past.2, same, stored_length t p ts stored h)
