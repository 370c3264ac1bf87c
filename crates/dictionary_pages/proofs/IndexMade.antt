-- A page of keys made of its parts.
use Rattle.std.proofs.Common.{◌≡◌, ◌≢◌, ◌⊎◌, inl, inr, ℕ, ◌+◌, ◌-◌, ◌*◌, ◌^◌, ◌<◌, ◌≤◌, min, pos, true, List, [], ◌∷◌, length, map, None, Some, Option, is_none, All, refl, ap, sym, ◌∙◌, arith}
use Rattle.std.specs.Prelude.{Contains, count_by, slice_get}
use Rattle.std.specs.List.{AllByRecursion as Each, AllZip}
use Rattle.std.proofs.lemmas.List.{length-map}
use Rattle.std.proofs.lemmas.List.Elements.{All-contains, All-from_recursion, recursion_from_All}
use Rattle.shredding.specs.Parts.{IsPath, path_slots, path_way}
use Rattle.shredding.specs.Shape.{LeafType, decimal}
use Rattle.shredding.specs.Shred.{max_repetition, max_definition}
use Rattle.shredding.specs.Slot.{Value, value}
use Rattle.columns_core.specs.Shapes.{base, leaf_type}
use Rattle.columns_entries.specs.Entries.{entries_of}
use Rattle.columns_slots.specs.Slots.{IsSound, child_of, entry_at, keys_in, tree_len, type_of}
use Rattle.columns_slots.specs.Tree.{ArrayTree}
use Rattle.levels.specs.declared.nested.Nested.{Nested}
use Rattle.levels.specs.Nested.{parts_of, nested_column}
use Rattle.nested_paths.specs.LeafNulls.{value_at}
use Rattle.pq_tree.specs.declared.types.DataPageHeader.{DataPageHeader}
use Rattle.pq_tree.specs.declared.types.Descriptor.{Descriptor}
use Rattle.pq_tree.specs.declared.types.PrimitiveType.{PrimitiveType}
use Rattle.pq_tree.specs.declared.version.Version.{Version}
use Rattle.pq_tree.specs.Footers.{ChunkStatistics}
use Rattle.pq_tree.specs.Physical.{Physical}
use Rattle.pq_tree.specs.Tree.{Leaf}
use Rattle.pq_files.specs.Layout.{plain_length}
use Rattle.pq_files.specs.Page.{dictionary, values_in}
use Rattle.pq_files.specs.Room.{room, max_size, max_count}
use Rattle.pq_files.specs.Stored.{AreStored, IsStored}
use Rattle.pq_files.specs.WrittenSpelling.{AreWrittenIndices, IsWrittenSpelled}
use Rattle.page_statistics.specs.Spelled.{HasOwnBytes}
use Rattle.write_places.specs.Places.{path_places}
use Rattle.write_places.proofs.StoredColumns.{columns_are_stored}
use Rattle.write_places.proofs.Values.{values_are_at_places}
use Rattle.write_values.specs.declared.page.Body.{Body}
use Rattle.write_values.specs.declared.page.PageForm.{PageForm}
use Rattle.write_values.specs.Pages.{IsHeader, out_page}
use Rattle.write_values.specs.Stored.{stored_at}
use Rattle.write_values.proofs.Counted.{nulls_and_values}
use Rattle.write_values.proofs.Made.{denotes_in}
use Rattle.dictionary_pages.specs.Entries.{is_entry, stored_entries}
use Rattle.dictionary_pages.specs.Indices.{IsLargest}
use Rattle.dictionary_pages.specs.Leaves.{NamesValue}
use Rattle.dictionary_pages.specs.Pages.{AreStatedBy, HoldsIndices, IsIndexBody}
use Rattle.dictionary_pages.proofs.EntryTypes.{entry_in_a_row, kind_no_decimal}
use Rattle.dictionary_pages.proofs.Named.{Over, key_kind, named_entry, named_stored}

-- how many pairs have no value
pub nulls_are : (values : ℕ → Value) (nested : List Nested) (pairs count : ℕ) → pairs ≡ min (length (nested_column values nested)) (2 ^ 64 - 1) → count ≡ min (length (path_places (parts_of nested))) (2 ^ 64 - 1) → length (nested_column values nested) ≤ max_count
    → pairs - count ≡ count_by (λ t. is_none t.value) (nested_column values nested)
nulls_are values nested pairs count p c few =
    let k : length (values_in (nested_column values nested)) ≡ length (path_places (parts_of nested)) = ap length (values_are_at_places values nested) ∙ length-map (path_places (parts_of nested)) values in
    omega (arith, p, c, few, k, nulls_and_values (nested_column values nested))

each_place : (a : ArrayTree) (b : ℕ) (is : List ℕ) → tree_len (child_of a) ≤ b → Each (NamesValue a) is → Each (λ n. n < b) (map (entry_at (keys_in a)) is)
each_place a b [] h e = tt
each_place a b (i ∷ is) h e = (omega (arith, h, e.0.0), each_place a b is h e.1)

-- the largest place of an entry has 32 bits
pub index_low : (a : ArrayTree) (is : List ℕ) (n : ℕ) → tree_len (child_of a) < 2 ^ 31 → All (NamesValue a) is → IsLargest (map (entry_at (keys_in a)) is) n → n < 2 ^ 32
index_low a is n few named l = by l.among
  where
    by : (n ≡ 0) ⊎ Contains (map (entry_at (keys_in a)) is) n → n < 2 ^ 32
    by (inl z) = omega (arith, z)
    by (inr c) = let low : n < 2 ^ 31 = All-contains (λ m. m < 2 ^ 31) (map (entry_at (keys_in a)) is) n (All-from_recursion (λ m. m < 2 ^ 31) (map (entry_at (keys_in a)) is) (each_place a (2 ^ 31) is (omega (arith, few)) (recursion_from_All (NamesValue a) is named))) c in omega (arith, low)

-- the lengths of its level sections have 31 bits
pub short_sections : (version : Version) (nested : List Nested) (stored : ℕ → Value) (ns : List ℕ) (body : Body) → IsIndexBody version nested stored ns body → 2048 + 14 * length (nested_column stored nested) ≤ max_size → (body.repetition < 2 ^ 31) × (body.definition < 2 ^ 31)
short_sections version nested stored ns body b fits =
    let s = b.sections in
    let r : body.repetition ≡ length s.repetition = ap (λ (x : ℕ × ℕ). x.0) s.sizes_are in
    let d : body.definition ≡ length s.definition = ap (λ (x : ℕ × ℕ). x.1) s.sizes_are in
    (omega (arith, r, s.tight, fits), omega (arith, d, s.tight, fits))

own_bytes : (t : LeafType) (vs : List Value) → t ≢ decimal → Each (HasOwnBytes t) vs
own_bytes t [] n = tt
own_bytes t (v ∷ vs) n = (λ e. absurd (n e), own_bytes t vs n)

module _ (a : ArrayTree) (o : Over a) (p : Physical) (sound : IsSound a) (are : is_entry (base (type_of (child_of a))) p ≡ true) (nested : List Nested) (named : All (NamesValue a) (path_places (parts_of nested))) where
  abbrev t : LeafType
  t = leaf_type (type_of a)

  abbrev stored : List Value
  stored = stored_entries (child_of a) p

  abbrev places : List ℕ
  places = path_places (parts_of nested)

  name_all : (is : List ℕ) → Each (NamesValue a) is → AllZip (λ n v. slice_get stored n ≡ Some v) (map (entry_at (keys_in a)) is) (map (stored_at a p) is)
  name_all [] h = tt
  name_all (i ∷ is) h = (named_entry a o p sound are i h.0, name_all is h.1)

  spelled : (text : List ℕ) → AreWrittenIndices text (map (entry_at (keys_in a)) places) → (l : Leaf) → l.physical ≡ p → IsWrittenSpelled dictionary l (Some stored) text (map (stored_at a p) places)
  spelled text w l e = (λ b. entry_in_a_row (base (type_of (child_of a))) p are (sym e ∙ b), (map (entry_at (keys_in a)) places, w, name_all places (recursion_from_All (NamesValue a) places named)))

  each_stored : (is : List ℕ) → Each (NamesValue a) is → Each (λ i. IsStored t p (value_at a i) (stored_at a p i)) is
  each_stored [] h = tt
  each_stored (i ∷ is) h = (named_stored a o p sound are i h.0, each_stored is h.1)

  pub index_stored : AreStored t p (nested_column (value_at a) nested) (nested_column (stored_at a p) nested)
  index_stored =
      columns_are_stored t p (value_at a) (stored_at a p) nested
      (All-from_recursion (λ i. IsStored t p (value_at a i) (stored_at a p i)) places (each_stored places (recursion_from_All (NamesValue a) places named)))

  pub index_holds : (form : PageForm) (type_ : PrimitiveType) (body : Body) (header : DataPageHeader) (about : Descriptor) (stated : Option ChunkStatistics) → IsPath (parts_of nested) → IsIndexBody form.version nested (stored_at a p) (map (entry_at (keys_in a)) places) body
      → (s : AreStatedBy form.with_statistics t p (entries_of (child_of a)) (nested_column (value_at a) nested) stated) → IsHeader form.version (out_page dictionary (nested_column (stored_at a p) nested) s.out) body.repetition body.definition header
      → room (length (nested_column (stored_at a p) nested)) (plain_length p (values_in (nested_column (stored_at a p) nested))) ≤ max_size
      → about.primitive_type ≡ type_ → about.max_rep_level ≡ pos (max_repetition (path_way (parts_of nested))) → about.max_def_level ≡ pos (max_definition (path_way (parts_of nested)))
      → HoldsIndices form t p (path_way (parts_of nested)) (entries_of (child_of a)) stored (path_slots (λ i. value (value_at a i)) (parts_of nested)) type_ (record { header = header; buffer = body.buffer.items; descriptor = about; selected_rows = None })
  index_holds form type_ body header about stated well b s h fits is r d = record {
    out = out_page dictionary (nested_column (stored_at a p) nested) s.out;
    denotes =
        denotes_in form.version dictionary p (Some stored) (stored_at a p) s.out nested b.levels body.buffer.items b.indices.text body.repetition body.definition header about well b.sections b.indices.parts (spelled b.indices.text b.indices.are)
        (omega (arith, b.indices.size, length-map places (entry_at (keys_in a)), length-map places (stored_at a p))) h fits;
    triples = index_stored;
    have_bytes = All-from_recursion (HasOwnBytes t) (values_in (nested_column (stored_at a p) nested)) (own_bytes t (values_in (nested_column (stored_at a p) nested)) (kind_no_decimal t (key_kind a o p sound are)));
    encoding = refl;
    statistics = s.has;
    exact = s.exact;
    within = fits;
    about = is;
    repeats = r;
    defines = d;
  }
