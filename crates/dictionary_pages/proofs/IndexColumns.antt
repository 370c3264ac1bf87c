-- A page of the path whose nulls are those that are seen, as one of the path that is given.
use Rattle.std.proofs.Common.{◌≡◌, ◌<◌, true, List, All, subst}
use Rattle.shredding.specs.Parts.{Part, path_slots, path_way}
use Rattle.shredding.specs.Shape.{LeafType, IsInRange, Way}
use Rattle.shredding.specs.Shred.{Triple, column}
use Rattle.shredding.specs.Slot.{Slot, value}
use Rattle.columns_core.specs.Shapes.{base, leaf_type}
use Rattle.columns_entries.specs.Entries.{entries_of}
use Rattle.columns_slots.specs.Slots.{IsSound, child_of, type_of}
use Rattle.columns_slots.specs.Tree.{ArrayTree}
use Rattle.levels.specs.declared.nested.Nested.{Nested}
use Rattle.levels.specs.Nested.{parts_of}
use Rattle.nested_paths.specs.LeafNulls.{value_at}
use Rattle.nested_paths.specs.Seen.{leaf_slot}
use Rattle.pq_tree.specs.declared.types.PrimitiveType.{PrimitiveType}
use Rattle.pq_tree.specs.Physical.{Physical}
use Rattle.pq_files.specs.Page.{values_in}
use Rattle.pq_files.specs.Room.{max_size}
use Rattle.pq_files.specs.Stored.{AreStored}
use Rattle.pq_pages.specs.DataPages.{DataPageValue}
use Rattle.write_values.specs.declared.page.PageForm.{PageForm}
use Rattle.write_values.specs.Pages.{column_room, stored_column}
use Rattle.dictionary_pages.specs.Entries.{is_entry, stored_entries}
use Rattle.dictionary_pages.specs.Pages.{HoldsIndices, IsPastRoom}
use Rattle.dictionary_pages.specs.Seen.{IsSeenPath}
use Rattle.dictionary_pages.proofs.IndexMade.{index_stored}
use Rattle.dictionary_pages.proofs.Named.{Over, key_kind}
use Rattle.dictionary_pages.proofs.SeenColumns.{all_named, column_is, not_past_room, past_room}

module _ (a : ArrayTree) (o : Over a) (p : Physical) (sound : IsSound a) (are : is_entry (base (type_of (child_of a))) p ≡ true) (old : List Part) where
  abbrev t : LeafType
  t = leaf_type (type_of a)

  abbrev ts : List Triple
  ts = column (path_way old) (path_slots (leaf_slot a) old)

  -- it has room
  pub holds_room : (form : PageForm) (type_ : PrimitiveType) (page : DataPageValue) → HoldsIndices form t p (path_way old) (entries_of (child_of a)) (stored_entries (child_of a) p) (path_slots (leaf_slot a) old) type_ page → IsPastRoom t p ts → ⊥
  holds_room form type_ page h = not_past_room t p ts h.out.triples (key_kind a o p sound are) h.triples h.within

  module _ (nested : List Nested) (s : IsSeenPath a old (parts_of nested)) where
    pub seen_holds : (form : PageForm) (type_ : PrimitiveType) (page : DataPageValue)
        → HoldsIndices form t p (path_way (parts_of nested)) (entries_of (child_of a)) (stored_entries (child_of a) p) (path_slots (λ i. value (value_at a i)) (parts_of nested)) type_ page
        → HoldsIndices form t p (path_way old) (entries_of (child_of a)) (stored_entries (child_of a) p) (path_slots (leaf_slot a) old) type_ page
    seen_holds form type_ page h =
        subst (λ (rows : List Slot). HoldsIndices form t p (path_way old) (entries_of (child_of a)) (stored_entries (child_of a) p) rows type_ page) s.slots
        (subst (λ (w : Way). HoldsIndices form t p w (entries_of (child_of a)) (stored_entries (child_of a) p) (path_slots (λ i. value (value_at a i)) (parts_of nested)) type_ page) s.way h)

    -- it has none
    pub seen_past : All (IsInRange t) (values_in ts) → max_size < column_room p (stored_column a p nested) → IsPastRoom t p ts
    seen_past ranged h =
        past_room t p ts (stored_column a p nested)
        (subst (λ (xs : List Triple). AreStored t p xs (stored_column a p nested)) (column_is a old nested s) (index_stored a o p sound are nested (all_named a o p sound are old nested s ranged))) h
