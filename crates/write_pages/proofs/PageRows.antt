-- What a page of a path holds of the rows of its array.
use Rattle.std.proofs.Common.{◌≡◌, ◌⊎◌, ◌↔◌, ◌<◌, ◌-◌, ◌^◌, ℕ, min, Bool, true, Option, None, suc, List, [], ◌∷◌, length, refl, sym, ap, subst, ◌∙◌, inl, inr}
use Rattle.std.specs.Prelude.{Result, Ok, Err, IfOk}
use Rattle.shredding.specs.Parts.{path_way, path_slots}
use Rattle.shredding.specs.Shred.{Triple, column}
use Rattle.shredding.specs.Slot.{Value}
use Rattle.std.specs.List.{AllZip}
use Rattle.columns_base.specs.declared.error.Error.{Error}
use Rattle.columns_base.specs.declared.error.Error.TheVariants.{Memory}
use Rattle.columns_core.specs.Shapes.{base, leaf_type}
use Rattle.columns_slots.specs.Slots.{IsSound, tree_len, type_of}
use Rattle.columns_slots.specs.Tree.{ArrayTree}
use Rattle.levels.specs.declared.nested.Nested.{Nested}
use Rattle.levels.specs.Nested.{parts_of, nested_column}
use Rattle.nested_paths.specs.LeafNulls.{value_at}
use Rattle.nested_paths.specs.Seen.{leaf_slot}
use Rattle.page_statistics.specs.Spelled.{IsExact}
use Rattle.page_statistics.specs.Stated.{AreStated}
use Rattle.pq_tree.specs.Footers.{ChunkStatistics}
use Rattle.pq_tree.specs.Physical.{Physical}
use Rattle.pq_tree.specs.Reads.{ComesWhere}
use Rattle.pq_tree.specs.TreeViews.{leaf_view}
use Rattle.pq_tree.specs.declared.types.PrimitiveType.{PrimitiveType}
use Rattle.pq_files.specs.Layout.{plain_length}
use Rattle.pq_files.specs.Page.{values_in}
use Rattle.pq_files.specs.Room.{room, max_size}
use Rattle.pq_files.specs.Statistics.{HasStatistics}
use Rattle.pq_files.specs.Stored.{IsStoredTriple, AreStored}
use Rattle.pq_pages.specs.DataPages.{DataPageValue}
use Rattle.write_places.specs.Places.{path_places}
use Rattle.write_places.proofs.Values.{values_are_at_places}
use Rattle.write_values.specs.declared.measured.Measured.{Measured}
use Rattle.write_values.specs.Pages.{IsColumnPage, column_room, out_page, stored_column, value_column}
use Rattle.write_values.specs.declared.page.PageForm.{PageForm}
use Rattle.write_values.specs.Decimals.{HasWide}
use Rattle.write_values.specs.Deltas.{page_encoding}
use Rattle.write_values.specs.Nulls.{TellsNulls}
use Rattle.write_values.specs.Rows.{Measures}
use Rattle.write_values.specs.Served.{is_served}
use Rattle.write_values.specs.Stored.{stored_at}
use Rattle.write_values.proofs.ServedColumns.{column_stored, slots_told}
use Rattle.write_pages.specs.declared.options.WriteOptions.{WriteOptions}
use Rattle.write_pages.specs.Holds.{HoldsRows}
use Rattle.write_pages.specs.Refused.{IsPastRoom}
use Rattle.write_pages.specs.Sized.{AreMeasured}
use Rattle.write_pages.proofs.StoredBytes.{column_bytes, decimals_told}
use Rattle.write_pages.proofs.StoredOnce.{sizes_once}

-- the form of the pages that are asked for
abbrev pub form_of : WriteOptions → Bool → PageForm
form_of o with_deltas = record { version = o.version; with_statistics = o.write_statistics; with_deltas = with_deltas }

pub each_ok : {A : Type 0} (r : Result A Error) (P Q : A → Type 0) → ((x : A) → P x → Q x) → IfOk r P → IfOk r Q
each_ok (Ok x) P Q f h = f x h
each_ok (Err e) P Q f h = h

pub comes_as : {A : Type 0} (reason : Error) (C D : Type 0) → (C → D) → (D → C) → (r : Result A Error) → ComesWhere reason C r → ComesWhere reason D r
comes_as reason C D f g (Ok x) h = λ d. h (g d)
comes_as reason C D f g (Err e) h = by_cause h
  where
    by_cause : (e ≡ Memory) ⊎ ((e ≡ reason) ↔ C) → (e ≡ Memory) ⊎ ((e ≡ reason) ↔ D)
    by_cause (inl m) = inl m
    by_cause (inr c) = inr (λ x. f (c.0 x), λ d. c.1 (g d))

module _ (a : ArrayTree) (p : Physical) (nested : List Nested) (s : IsSound a) (e : is_served (base (type_of a)) p ≡ true) (told : TellsNulls a (parts_of nested)) where
  abbrev ts : List Triple
  ts = column (path_way (parts_of nested)) (path_slots (leaf_slot a) (parts_of nested))

  -- the column of the values is that of the rows
  column_is : nested_column (value_at a) nested ≡ ts
  column_is = ap (column (path_way (parts_of nested))) (slots_told a p (parts_of nested) s e told)

  -- and so is what is held of it
  pub rows_held : ¬ HasWide (leaf_type (type_of a)) p ts → ¬ HasWide (leaf_type (type_of a)) p (value_column a nested)
  rows_held n = subst (λ (xs : List Triple). ¬ HasWide (leaf_type (type_of a)) p xs) (sym column_is) n

  pub rows_stored : AreStored (leaf_type (type_of a)) p (value_column a nested) (stored_column a p nested) → AreStored (leaf_type (type_of a)) p ts (stored_column a p nested)
  rows_stored h = subst (λ (xs : List Triple). AreStored (leaf_type (type_of a)) p xs (stored_column a p nested)) column_is h

  pub holds_rows : (o : WriteOptions) (with_deltas : Bool) (type_ : PrimitiveType) (page : DataPageValue) → AreStored (leaf_type (type_of a)) p (value_column a nested) (stored_column a p nested) → IsColumnPage (form_of o with_deltas) a p type_ nested page
      → HoldsRows o (page_encoding with_deltas (leaf_type (type_of a)) p) (leaf_type (type_of a)) (leaf_view type_) p (path_way (parts_of nested)) None (path_slots (leaf_slot a) (parts_of nested)) page
  holds_rows o with_deltas type_ page are h = record {
    out = out_page (page_encoding with_deltas (leaf_type (type_of a)) p) (stored_column a p nested) h.statistics;
    denotes = h.denotes;
    triples = rows_stored are;
    have_bytes = column_bytes a p nested s e;
    encoding = refl;
    statistics = subst (λ (xs : List Triple). HasStatistics o.write_statistics (leaf_type (type_of a)) p h.statistics xs (values_in xs)) column_is h.has;
    exact = subst (λ (xs : List Triple). IsExact (leaf_type (type_of a)) p (values_in xs) h.statistics) column_is h.exact;
    within = h.within;
    about = ap leaf_view h.about;
    repeats = h.repeats;
    defines = h.defines;
  }

  -- what is stated of the values is stated of the rows
  pub rows_stated : (wanted : Bool) (stated : Option ChunkStatistics) → AreStated wanted (leaf_type (type_of a)) p (value_column a nested) stated → AreStated wanted (leaf_type (type_of a)) p ts stated
  rows_stated wanted stated h = subst (λ (xs : List Triple). AreStated wanted (leaf_type (type_of a)) p xs stated) column_is h

  -- and back
  pub values_stated : (wanted : Bool) (stated : Option ChunkStatistics) → AreStated wanted (leaf_type (type_of a)) p ts stated → AreStated wanted (leaf_type (type_of a)) p (value_column a nested) stated
  values_stated wanted stated h = subst (λ (xs : List Triple). AreStated wanted (leaf_type (type_of a)) p xs stated) (sym column_is) h

  -- the room of the page, whatever is stored
  length_is : (stored : List Triple) → AreStored (leaf_type (type_of a)) p ts stored → length ts ≡ length stored
  length_is stored are = zip_long ts stored are
    where
      zip_long : (xs ys : List Triple) → AllZip (IsStoredTriple (leaf_type (type_of a)) p) xs ys → length xs ≡ length ys
      zip_long [] [] h = refl
      zip_long (x ∷ xs) (y ∷ ys) h = ap suc (zip_long xs ys h.1)
      zip_long [] (y ∷ ys) h = absurd h
      zip_long (x ∷ xs) [] h = absurd h

  pub room_is_past : AreStored (leaf_type (type_of a)) p (value_column a nested) (stored_column a p nested) → max_size < column_room p (stored_column a p nested) → IsPastRoom (leaf_type (type_of a)) p ts
  room_is_past are h =
      let all = rows_stored are in
      (stored_column a p nested, all, subst (λ (n : ℕ). max_size < room n (plain_length p (values_in (stored_column a p nested)))) (sym (length_is (stored_column a p nested) all)) h)

  pub is_past_room : AreStored (leaf_type (type_of a)) p (value_column a nested) (stored_column a p nested) → IsPastRoom (leaf_type (type_of a)) p ts → max_size < column_room p (stored_column a p nested)
  is_past_room are h =
      let all = rows_stored are in
      let same : plain_length p (values_in h.0) ≡ plain_length p (values_in (stored_column a p nested)) = sizes_once (type_of a) p ts h.0 (stored_column a p nested) e h.1 all in
      subst (λ (n : ℕ). max_size < room n (plain_length p (values_in (stored_column a p nested)))) (length_is (stored_column a p nested) all) (subst (λ (n : ℕ). max_size < room (length ts) n) same h.2)

  -- what is measured is the stored column's
  pub are_measured : (m : Measured) → ¬ HasWide (leaf_type (type_of a)) p ts → Measures p (tree_len a) (stored_at a p) (path_places (parts_of nested)) m → AreMeasured (leaf_type (type_of a)) p (path_way (parts_of nested)) (path_slots (leaf_slot a) (parts_of nested)) m.plain
  are_measured m n h = record {
    stored = stored_column a p nested;
    are_stored = rows_stored (column_stored a p nested s e told h.within (rows_held n));
    have_bytes = column_bytes a p nested s e;
    bytes = h.plain ∙ ap (λ (vs : List Value). min (plain_length p vs) (2 ^ 128 - 1)) (sym (values_are_at_places (stored_at a p) nested));
  }

-- decimals are wide in the one where they are in the other: of nulls alone there are none
pub rows_wide : (a : ArrayTree) (p : Physical) (nested : List Nested) → IsSound a → is_served (base (type_of a)) p ≡ true → HasWide (leaf_type (type_of a)) p (value_column a nested) ↔ HasWide (leaf_type (type_of a)) p (column (path_way (parts_of nested)) (path_slots (leaf_slot a) (parts_of nested)))
rows_wide a p nested s e = (
  λ h. subst (λ (xs : List Triple). HasWide (leaf_type (type_of a)) p xs) (column_is a p nested s e (decimals_told a (parts_of nested) s h.0)) h,
  λ h. subst (λ (xs : List Triple). HasWide (leaf_type (type_of a)) p xs) (sym (column_is a p nested s e (decimals_told a (parts_of nested) s h.0))) h,
)
