-- A page whose values a caller spells.
use Rattle.std.proofs.Common.{◌≡◌, ◌≤◌, ℕ, List, length, map, None, Some, refl, ap, subst, true}
use Rattle.columns_core.specs.Shapes.{base, leaf_type}
use Rattle.columns_slots.specs.Slots.{IsSound, type_of}
use Rattle.columns_slots.specs.Tree.{ArrayTree}
use Rattle.leaf_pages.proofs.Opened.{is_page}
use Rattle.leaf_pages.proofs.Values.{values_told}
use Rattle.leaf_pages.specs.Columns.{IsPageAlong, IsValueArray, column_along, column_pairs}
use Rattle.leaf_pages.specs.Encoded.{HoldsValues, stored_pairs}
use Rattle.levels.specs.Nested.{parts_of}
use Rattle.levels.specs.declared.nested.Nested.{Nested}
use Rattle.page_statistics.specs.Stated.{AreStated}
use Rattle.pq_files.specs.Page.{Encoding, plain, dictionary, delta, delta_length}
use Rattle.pq_files.specs.Room.{max_size}
use Rattle.pq_files.specs.Stored.{AreStored}
use Rattle.pq_files.specs.Written.{number_of_encoding}
use Rattle.pq_files.specs.WrittenSpelling.{IsWrittenSpelled}
use Rattle.pq_pages.specs.DataPages.{is_named}
use Rattle.pq_tree.specs.Physical.{Physical}
use Rattle.pq_tree.specs.Tree.{Leaf}
use Rattle.pq_tree.specs.TreeViews.{leaf_view}
use Rattle.pq_tree.specs.Views.{physical_view}
use Rattle.pq_tree.specs.declared.types.DataPageHeader.{DataPageHeader}
use Rattle.pq_tree.specs.declared.types.Descriptor.{Descriptor}
use Rattle.pq_tree.specs.declared.types.PrimitiveType.{PrimitiveType}
use Rattle.shredding.specs.Parts.{IsPath, path_way}
use Rattle.shredding.specs.Shred as shred
use Rattle.shredding.specs.Shred.{Triple, column}
use Rattle.shredding.specs.Slot.{Value}
use Rattle.write_pages.proofs.StoredBytes.{column_bytes}
use Rattle.write_pages.specs.Holds.{encoding_view}
use Rattle.write_pages.specs.declared.options.WriteOptions.{WriteOptions}
use Rattle.write_places.specs.Places.{path_places}
use Rattle.write_places.proofs.Values.{values_are_at_places}
use Rattle.write_values.proofs.Made.{denotes_within}
use Rattle.write_values.specs.Deltas.{encoding_name}
use Rattle.write_values.proofs.ServedColumns.{slots_told}
use Rattle.write_values.specs.Pages.{IsHeader, column_room, out_page, value_column}
use Rattle.write_values.specs.Served.{is_served}
use Rattle.write_values.specs.Stored.{stored_at}
use Rattle.pq_tree.specs.Footers.{ChunkStatistics}
use Rattle.std.specs.Prelude.{pos, Option}

-- the name under which an encoding is written is its own
pub named_back : (e : Encoding) → encoding_view (encoding_name e) ≡ Some e
named_back plain = refl
named_back dictionary = refl
named_back delta = refl
named_back delta_length = refl

-- and has a number
pub is_numbered : (e : Encoding) → is_named (pos (number_of_encoding e)) ≡ true
is_numbered plain = refl
is_numbered dictionary = refl
is_numbered delta = refl
is_numbered delta_length = refl

module _ (a : ArrayTree) (type_ : PrimitiveType) (nested : List Nested) (is : IsValueArray a) (s : IsSound a) (e : is_served (base (type_of a)) (physical_view type_.physical_type) ≡ true) where
  abbrev p : Physical
  p = physical_view type_.physical_type

  abbrev stored : ℕ → Value
  stored = stored_at a p

  -- the column of the values is that of the rows
  pub pairs_few : (n : ℕ) → length (value_column a nested) ≤ n → length (column_pairs (column_along type_ nested a)) ≤ n
  pairs_few n h = subst (λ (ts : List Triple). length ts ≤ n) (ap (column (path_way (parts_of nested))) (slots_told a p (parts_of nested) s e (values_told a (parts_of nested) is))) h

  -- The page of a header and a body that are made so.
  pub encoded_is : (o : WriteOptions) (k : Encoding) (stated : Option ChunkStatistics) (header : DataPageHeader) (about : Descriptor) (buffer : List ℕ) (r d : ℕ) → IsPath (parts_of nested)
      → (h : HoldsValues o.version k (column_along type_ nested a) buffer (r, d)) → column_room p (stored_pairs (column_along type_ nested a)) ≤ max_size
      → AreStored (leaf_type (type_of a)) p (column_pairs (column_along type_ nested a)) (stored_pairs (column_along type_ nested a))
      → (st : AreStated o.write_statistics (leaf_type (type_of a)) p (column_pairs (column_along type_ nested a)) stated)
      → IsHeader o.version (out_page k (stored_pairs (column_along type_ nested a)) st.out) r d header
      → about.primitive_type ≡ type_ → about.max_rep_level ≡ pos (shred.max_repetition (path_way (parts_of nested))) → about.max_def_level ≡ pos (shred.max_definition (path_way (parts_of nested)))
      → IsPageAlong o k (column_along type_ nested a) (record { header = header; buffer = buffer; descriptor = about; selected_rows = None })
  encoded_is o k stated header about buffer r d well h fits are st head t rep def =
      let spelled : (l : Leaf) → l.physical ≡ p → IsWrittenSpelled k l None h.values.text (map stored (path_places (parts_of nested))) = λ l q. subst (λ (vs : List Value). IsWrittenSpelled k l None h.values.text vs) (values_are_at_places stored nested) (h.values.spelled l q) in
      is_page o k (column_along type_ nested a) (record { header = header; buffer = buffer; descriptor = about; selected_rows = None }) (record {
        out = out_page k (stored_pairs (column_along type_ nested a)) st.out;
        denotes = denotes_within o.version k p None stored st.out nested h.levels buffer h.values.text r d header about well h.sections h.values.parts spelled h.values.within head fits;
        triples = are;
        have_bytes = column_bytes a p nested s e;
        encoding = refl;
        statistics = st.has;
        exact = st.exact;
        within = fits;
        about = ap leaf_view t;
        repeats = rep;
        defines = def;
      })
