-- Which columns are written, of values and of dictionaries.
use Rattle.std.proofs.Common.{◌≡◌, ◌∙◌, ◌⊎◌, inl, inr, Bool, true, false, true≢false, Option, Some, None, List, refl, sym, ap, subst}
use Rattle.std.specs.Prelude.{◌||◌}
use Rattle.std.proofs.lemmas.Bool.{or_left}
use Rattle.shredding.specs.Parts.{Part, path_way}
use Rattle.shredding.specs.Along.{IsAlong}
use Rattle.std.specs.Prelude.{All}
use Rattle.columns_base.specs.declared.error.Error.{Error}
use Rattle.columns_base.specs.declared.error.Error.TheVariants.{Memory, InvalidArgumentError, NotYetImplemented}
use Rattle.columns_base.specs.declared.error.A.TheVariants.{A7, A8}
use Rattle.columns_base.specs.declared.error.N.TheVariants.{N4, N5}
use Rattle.columns_core.specs.Shapes.{base, leaf_type}
use Rattle.columns_core.specs.Tree.{TypeTree, t_dictionary}
use Rattle.columns_slots.specs.Slots.{IsSound, child_of, type_of}
use Rattle.columns_slots.specs.Tree.{ArrayTree}
use Rattle.columns_slots.specs.Types.{entry_type}
use Rattle.levels.specs.InBounds.{IsInBounds}
use Rattle.pq_tree.specs.declared.types.Encoding.{Encoding}
use Rattle.pq_tree.specs.declared.types.Encoding.TheVariants as E
use Rattle.pq_tree.specs.declared.types.PrimitiveType.{PrimitiveType}
use Rattle.pq_tree.specs.Physical.{Physical}
use Rattle.pq_tree.specs.TreeViews.{leaf_view}
use Rattle.pq_tree.specs.Views.{physical_view}
use Rattle.pq_files.specs.Page.{dictionary}
use Rattle.schema_fit.specs.declared.page_table.Row.{Row}
use Rattle.schema_fit.specs.PageTable.{allows, entry_row}
use Rattle.schema_to_tree.specs.Encodes.{is_dictionary}
use Rattle.shredding.specs.Shred.{column}
use Rattle.dictionary_pages.specs.Entries.{row_allows}
use Rattle.write_pages.specs.declared.options.WriteOptions.{WriteOptions}
use Rattle.write_pages.specs.Fits.{AreColumnKeyed, FitsColumn, is_column_written, is_dictionary_encoding, is_flat_path, is_keyed_in, is_row_in, is_written_along, is_written_in, row_at}
use Rattle.write_pages.specs.Holds.{encoding_view, rows_of}
use Rattle.write_pages.specs.Keyed.{FitsKeys}
use Rattle.write_pages.specs.Refused.{AreWritten, HasWide, IsColumnUnwritten, IsUnwritten, RefusesPages}
use Rattle.write_pages.proofs.KeyedArrays.{IsKeyed, entries_typed, is_keyed}

or_right : (a b : Bool) → b ≡ true → a || b ≡ true
or_right true b h = refl
or_right false b h = h

neither : (a b : Bool) → a ≡ false → b ≡ false → a || b ≡ false
neither true b e f = e
neither false b e f = f

-- ---- columns of values

values_unkeyed : (flat : Bool) (t : TypeTree) → is_dictionary t ≡ false → is_keyed_in flat t ≡ false
values_unkeyed flat (t_dictionary k u s) e = absurd (true≢false e)
values_unkeyed flat t e = refl

module _ (o : WriteOptions) (type_ : PrimitiveType) (parts : List Part) (a : ArrayTree) (e : Encoding) (values : is_dictionary (base (type_of a)) ≡ false) where
  abbrev p : Physical
  p = physical_view type_.physical_type

  pub no_keys_reached : AreColumnKeyed parts a
  no_keys_reached = λ k. absurd (true≢false (sym k ∙ values))

  pub column_written : ¬ IsUnwritten parts (type_of a) p e → ¬ IsColumnUnwritten parts (type_of a) p e
  column_written n = λ u. elim u [ inl k ↦ true≢false (sym k.0 ∙ values) | inr v ↦ n v.1 ]

  pub values_written : is_written_along parts a ≡ true → is_column_written parts a ≡ true
  values_written w = or_left (is_written_along parts a) (is_keyed_in (is_flat_path parts) (base (type_of a))) w

  pub form_refused : (x : Error) → ((x ≡ NotYetImplemented N4) × IsUnwritten parts (type_of a) p e) ⊎ ((x ≡ NotYetImplemented N5) × (¬ IsUnwritten parts (type_of a) p e) × (is_written_along parts a ≡ false)) → RefusesPages o type_ parts a e x
  form_refused x (inl u) = inl (u.0, inr (values, u.1))
  form_refused x (inr w) = inr (inl (w.0, column_written w.1, neither (is_written_along parts a) (is_keyed_in (is_flat_path parts) (base (type_of a))) w.2 (values_unkeyed (is_flat_path parts) (base (type_of a)) values)))

  pub fit_refused : (x : Error) → ¬ IsUnwritten parts (type_of a) p e → is_written_along parts a ≡ true → (x ≡ Memory) ⊎ ((x ≡ InvalidArgumentError A8) × ¬ (IsInBounds parts × FitsColumn parts (rows_of parts a) (leaf_view type_) p a)) → (x ≡ Memory) ⊎ RefusesPages o type_ parts a e x
  fit_refused x n w (inl m) = inl m
  fit_refused x n w (inr f) = inr (inr (inr (inl (f.0, column_written n, values_written w, λ h. f.1 (h.0, h.1)))))

  pub are_written : ¬ IsUnwritten parts (type_of a) p e → is_written_along parts a ≡ true → IsInBounds parts → FitsColumn parts (rows_of parts a) (leaf_view type_) p a → AreWritten o type_ parts a e
  are_written n w b f = record { form = column_written n; values = values_written w; in_bounds = b; fits = f; keyed = no_keys_reached }

  pub wide_refused : (x : Error) → ¬ IsUnwritten parts (type_of a) p e → is_written_along parts a ≡ true → IsInBounds parts → FitsColumn parts (rows_of parts a) (leaf_view type_) p a → (x ≡ Memory) ⊎ ((x ≡ InvalidArgumentError A7) × HasWide (leaf_type (type_of a)) p (column (path_way parts) (rows_of parts a))) → (x ≡ Memory) ⊎ RefusesPages o type_ parts a e x
  wide_refused x n w b f (inl m) = inl m
  wide_refused x n w b f (inr h) = inr (inr (inr (inr (h.0, are_written n w b f, h.1))))

-- ---- columns of dictionaries

keys_unwritten : (flat : Bool) (t : TypeTree) → is_dictionary t ≡ true → is_written_in flat t ≡ false
keys_unwritten true (t_dictionary k u s) e = refl
keys_unwritten false (t_dictionary k u s) e = refl
keys_unwritten flat t e = absurd (true≢false (sym e))

abbrev some_or : TypeTree → Option TypeTree → TypeTree
some_or t None = t
some_or t (Some u) = u

pub keyed_row : (flat : Bool) (t u : TypeTree) → entry_type t ≡ Some u → is_keyed_in flat t ≡ is_row_in flat (entry_row (base u))
keyed_row flat (t_dictionary k v s) u e = ap (λ (o : Option TypeTree). is_row_in flat (entry_row (base (some_or v o)))) e
keyed_row flat t u e = absurd cc

row_is : (t u : TypeTree) → entry_type t ≡ Some u → row_at t ≡ entry_row (base u)
row_is (t_dictionary k v s) u e = ap (λ (o : Option TypeTree). entry_row (base (some_or v o))) e
row_is t u e = absurd cc

-- where there is a row, the physical type is one of it
row_fits : (flat : Bool) (o : Option Row) (p : Physical) → is_row_in flat o ≡ true → ((r : Row) → o ≡ Some r → allows r.stored p ≡ true) → row_allows o p ≡ true
row_fits flat None p h f = absurd (true≢false (sym h))
row_fits flat (Some r) p h f = f r refl

pub dictionary_named : (e : Encoding) → is_dictionary_encoding e ≡ true → encoding_view e ≡ Some dictionary
dictionary_named E.PlainDictionary h = refl
dictionary_named E.RleDictionary h = refl
dictionary_named e h = absurd (true≢false (sym h))

module _ (o : WriteOptions) (type_ : PrimitiveType) (parts : List Part) (a : ArrayTree) (e : Encoding) (is : IsKeyed a) (sound : IsSound a) where
  abbrev q : Physical
  q = physical_view type_.physical_type

  abbrev flat : Bool
  flat = is_flat_path parts

  keyed : is_dictionary (base (type_of a)) ≡ true
  keyed = is_keyed a is sound

  pub keys_written : is_dictionary_encoding e ≡ true → ¬ IsColumnUnwritten parts (type_of a) q e
  keys_written h = λ u. elim u [ inl k ↦ true≢false (sym h ∙ k.1) | inr v ↦ true≢false (sym keyed ∙ v.0) ]

  pub keys_in_column : is_keyed_in flat (base (type_of a)) ≡ true → is_column_written parts a ≡ true
  keys_in_column h = or_right (is_written_along parts a) (is_keyed_in flat (base (type_of a))) h

  pub keys_refused : (x : Error) → ((x ≡ NotYetImplemented N4) × (is_dictionary_encoding e ≡ false)) ⊎ ((x ≡ NotYetImplemented N5) × (is_dictionary_encoding e ≡ true) × (is_keyed_in flat (base (type_of a)) ≡ false)) → RefusesPages o type_ parts a e x
  keys_refused x (inl u) = inl (u.0, inl (keyed, u.1))
  keys_refused x (inr w) = inr (inl (w.0, keys_written w.1, neither (is_written_along parts a) (is_keyed_in flat (base (type_of a))) (keys_unwritten flat (base (type_of a)) keyed) w.2))

  -- the path and the type fit the dictionary
  row_here : row_at (base (type_of a)) ≡ entry_row (base (type_of (child_of a)))
  row_here = row_is (base (type_of a)) (type_of (child_of a)) (entries_typed a is sound)

  pub fits_column : FitsKeys parts (leaf_view type_) q a → All (IsAlong (path_way parts)) (rows_of parts a) → FitsColumn parts (rows_of parts a) (leaf_view type_) q a
  fits_column f r = record {
    array = f.array;
    physical = λ row h. subst (λ (x : Option Row). row_allows x q ≡ true) (sym row_here ∙ h) f.entries;
    optional = f.optional;
    reached = r;
  }

  fits_keys : is_keyed_in flat (base (type_of a)) ≡ true → IsInBounds parts → FitsColumn parts (rows_of parts a) (leaf_view type_) q a → FitsKeys parts (leaf_view type_) q a
  fits_keys k b f = record {
    in_bounds = b;
    array = f.array;
    optional = f.optional;
    entries = row_fits flat (entry_row (base (type_of (child_of a)))) q (sym (keyed_row flat (base (type_of a)) (type_of (child_of a)) (entries_typed a is sound)) ∙ k) (λ r h. f.physical r (row_here ∙ h));
  }

  misfit : is_dictionary_encoding e ≡ true → is_keyed_in flat (base (type_of a)) ≡ true → ¬ (IsInBounds parts × FitsColumn parts (rows_of parts a) (leaf_view type_) q a × AreColumnKeyed parts a) → (x : Error) → x ≡ InvalidArgumentError A8 → RefusesPages o type_ parts a e x
  misfit h k n x m = inr (inr (inl (m, keys_written h, keys_in_column k, n)))

  pub fit_of_keys_refused : is_dictionary_encoding e ≡ true → is_keyed_in flat (base (type_of a)) ≡ true → (x : Error) → (x ≡ InvalidArgumentError A8) × ¬ FitsKeys parts (leaf_view type_) q a → RefusesPages o type_ parts a e x
  fit_of_keys_refused h k x f = misfit h k (λ b. f.1 (fits_keys k b.0 b.1)) x f.0

  pub reached_refused : is_dictionary_encoding e ≡ true → is_keyed_in flat (base (type_of a)) ≡ true → ¬ AreColumnKeyed parts a → (x : Error) → x ≡ InvalidArgumentError A8 → RefusesPages o type_ parts a e x
  reached_refused h k n x m = misfit h k (λ b. n b.2) x m

  pub keys_are_written : is_dictionary_encoding e ≡ true → is_keyed_in flat (base (type_of a)) ≡ true → IsInBounds parts → FitsColumn parts (rows_of parts a) (leaf_view type_) q a → AreColumnKeyed parts a → AreWritten o type_ parts a e
  keys_are_written h k b f r = record { form = keys_written h; values = keys_in_column k; in_bounds = b; fits = f; keyed = r }
