-- The pages of a dictionary's column, which are those of all its rows.
use Rattle.std.proofs.Common.{◌≡◌, ◌∙◌, ◌<◌, ◌≤◌, Bool, true, false, Option, Some, None, List, refl, sym, ap, subst, arith, All}
use Rattle.shredding.specs.Along.{IsAlong}
use Rattle.shredding.specs.Cut.{cut as pieces_of}
use Rattle.shredding.specs.Parts.{Part, path_slots, path_way, slot_count}
use Rattle.shredding.specs.Shape.{LeafType, IsInRange, Way}
use Rattle.shredding.specs.Shred.{column}
use Rattle.shredding.specs.Slot.{Slot, Value}
use Rattle.columns_core.specs.Shapes.{base, leaf_type}
use Rattle.columns_entries.specs.Entries.{entries_of}
use Rattle.columns_slots.specs.Slots.{IsSound, child_of, keys_in, mask_of, type_of}
use Rattle.columns_slots.specs.Tree.{ArrayTree}
use Rattle.levels.specs.Nested.{parts_of}
use Rattle.nested_paths.specs.Seen.{leaf_slot}
use Rattle.nested_slice.specs.CutPath.{leaf_rows}
use Rattle.pq_files.specs.Layout.{AreStoredEntries}
use Rattle.pq_files.specs.Page.{values_in}
use Rattle.pq_tree.specs.declared.types.Encoding.{Encoding}
use Rattle.pq_tree.specs.declared.types.PrimitiveType.{PrimitiveType}
use Rattle.pq_tree.specs.Footers.{ChunkStatistics}
use Rattle.pq_tree.specs.Physical.{Physical}
use Rattle.pq_tree.specs.Views.{physical_view}
use Rattle.dictionary_pages.proofs.Named.{same_type}
use Rattle.dictionary_pages.specs.Entries.{is_entry}
use Rattle.dictionary_pages.specs.Keys.{AreKeyed, AreRowsOf}
use Rattle.dictionary_pages.specs.Pages.{AreStatedBy}
use Rattle.write_pages.specs.declared.keyed_column.KeyedColumn.{KeyedColumn}
use Rattle.write_pages.specs.declared.options.WriteOptions.{WriteOptions}
use Rattle.write_pages.specs.Entries.{AreStatedWith, Entries, leaf_entries, owes_page, stored_list}
use Rattle.write_pages.specs.Fits.{AreColumnKeyed, whole_path}
use Rattle.write_pages.specs.Holds.{ArePieces, IsPagesOf, column_encoding, dictionary_to_give, piece_owed, rows_of}
use Rattle.write_pages.specs.Keyed.{IsWhole}
use Rattle.write_pages.proofs.DictionaryRows.{entries_are, owed, owes}
use Rattle.write_pages.proofs.KeyedArrays.{IsKeyed, cut_child, is_keyed, own_entries}
use Rattle.write_pages.proofs.KeyedStored.{entries_keep}
use Rattle.write_pages.proofs.Moved.{rows_counted, type_cut}

stated_by : (wanted : Bool) (t u : LeafType) (p : Physical) (es fs : List (Option Value)) (w v : Way) (rows others : List Slot) (stated : Option ChunkStatistics) → t ≡ u → es ≡ fs → w ≡ v → rows ≡ others → AreStatedBy wanted t p es (column w rows) stated → AreStatedBy wanted u p fs (column v others) stated
stated_by wanted t u p es fs w v rows others stated a b d e h =
    subst (λ (x : LeafType). AreStatedBy wanted x p fs (column v others) stated) a
    (subst (λ (x : List (Option Value)). AreStatedBy wanted t p x (column v others) stated) b (subst (λ (x : Way). AreStatedBy wanted t p es (column x others) stated) d (subst (λ (x : List Slot). AreStatedBy wanted t p es (column w x) stated) e h)))

module _ (parts : List Part) (a : ArrayTree) (is : IsKeyed a) (sound : IsSound a) (c : KeyedColumn) (w : IsWhole a parts c) where
  abbrev own_parts : List Part
  own_parts = parts_of c.nested.items

  kind_is : leaf_type (type_of c.array) ≡ leaf_type (type_of a)
  kind_is = ap (λ (x : ArrayTree). leaf_type (type_of x)) w.tree ∙ ap leaf_type (type_cut a (leaf_rows parts 0 (slot_count parts)).0 (leaf_rows parts 0 (slot_count parts)).1)

  child_is : child_of c.array ≡ child_of a
  child_is = ap child_of w.tree ∙ cut_child a (leaf_rows parts 0 (slot_count parts)).0 (leaf_rows parts 0 (slot_count parts)).1 is

  pub entry_there : (p : Physical) → is_entry (base (type_of (child_of a))) p ≡ true → is_entry (base (type_of (child_of c.array))) p ≡ true
  entry_there p h = subst (λ (x : ArrayTree). is_entry (base (type_of x)) p ≡ true) (sym child_is) h

  -- ---- the keys that are reached

  pub are_keyed : AreKeyed c.array own_parts → AreColumnKeyed parts a
  are_keyed k = λ d. subst (λ (x : ArrayTree). AreKeyed x (whole_path parts)) w.tree (subst (AreKeyed c.array) w.path k)

  pub not_keyed : ¬ AreKeyed c.array own_parts → ¬ AreColumnKeyed parts a
  not_keyed n = λ h. n (subst (AreKeyed c.array) (sym w.path) (subst (λ (x : ArrayTree). AreKeyed x (whole_path parts)) (sym w.tree) (h (is_keyed a is sound))))

  pub all_along : AreRowsOf (leaf_type (type_of c.array)) (path_way own_parts) (path_slots (leaf_slot c.array) own_parts) → All (IsAlong (path_way parts)) (rows_of parts a)
  all_along r = subst (λ (v : Way). All (IsAlong v) (rows_of parts a)) w.way (subst (All (IsAlong (path_way own_parts))) w.rows r.along)

  -- ---- the pages

  -- whether there is a row
  pub record TellsRows (b : Bool) : Type 0 where
    pub some : b ≡ true → 0 < slot_count parts
    pub none : b ≡ false → slot_count parts ≤ 0

  page_owed : (b : Bool) → TellsRows b → b ≡ owes_page (Some (entries_of (child_of a))) (rows_of parts a)
  page_owed b h = let n = rows_counted parts a in owes (entries_of (child_of a)) (rows_of parts a) b (λ e. let k = h.some e in omega (arith, n, k)) (λ e. let k = h.none e in omega (arith, n, k))

  pub keyed_pages_of : (o : WriteOptions) (type_ : PrimitiveType) (e : Encoding) (b : Bool) (stated : Option ChunkStatistics) → is_entry (base (type_of (child_of a))) (physical_view type_.physical_type) ≡ true → TellsRows b
      → AreRowsOf (leaf_type (type_of c.array)) (path_way own_parts) (path_slots (leaf_slot c.array) own_parts)
      → AreStatedBy o.write_statistics (leaf_type (type_of c.array)) (physical_view type_.physical_type) (entries_of (child_of c.array)) (column (path_way own_parts) (path_slots (leaf_slot c.array) own_parts)) stated
      → IsPagesOf o type_ parts a e (dictionary_to_give (record { options = o; type_ = type_; array = c.array; parts = own_parts; owes_entries = b; owes_rows = b; statistics = stated }))
  keyed_pages_of o type_ e b stated are h r s =
      let l = leaf_type (type_of a) in
      let p = physical_view type_.physical_type in
      let rows = rows_of parts a in
      let es = entries_of (child_of a) in
      let own : leaf_entries a ≡ Some es = own_entries a is in
      let same : entries_of (child_of c.array) ≡ es = ap entries_of child_is in
      let told : AreStatedBy o.write_statistics l p es (column (path_way parts) rows) stated = stated_by o.write_statistics _ _ p _ _ _ _ _ _ stated kind_is same w.way w.rows s in
      let pieces : piece_owed b (path_slots (leaf_slot c.array) own_parts) ≡ pieces_of rows None = ap (piece_owed b) w.rows ∙ owed es rows b (page_owed b h) in
      let ranged : All (IsInRange l) (values_in (column (path_way parts) rows)) =
      subst (λ (k : LeafType). All (IsInRange k) (values_in (column (path_way parts) rows))) kind_is
      (subst (λ (v : Way). All (IsInRange (leaf_type (type_of c.array))) (values_in (column v rows))) w.way
      (subst (λ (ss : List Slot). All (IsInRange (leaf_type (type_of c.array))) (values_in (column (path_way own_parts) ss))) w.rows r.in_range)) in
      let kept = entries_keep (type_of (child_of a)) p are l (sym (same_type (type_of a) (keys_in a) (child_of a) (mask_of a) (subst IsSound is sound))) (column (path_way parts) rows) ranged in
      record {
        options = refl;
        encoding = ap (λ (x : Entries). column_encoding x l parts e) own;
        type = kind_is;
        node = refl;
        physical = refl;
        way = w.way;
        rows = w.rows;
        entries = ap (λ (x : List (Option Value)). Some x) same ∙ sym own;
        stored_entries = subst (λ (x : Entries). AreStoredEntries l p x (stored_list l p x)) (sym own) (entries_are a p is sound are);
        owes = page_owed b h ∙ ap (λ (x : Entries). owes_page x rows) (sym own);
        statistics = subst (λ (x : Entries). AreStatedWith o.write_statistics l p x (column (path_way parts) rows) stated) (sym own) told;
        pieces = subst (λ (x : Entries). ArePieces x o.data_pagesize_limit l p (column (path_way parts) rows) rows (piece_owed b (path_slots (leaf_slot c.array) own_parts))) (sym own) (record { stored = kept.0; are_stored = kept.1; have_bytes = kept.2; one = pieces });
      }
