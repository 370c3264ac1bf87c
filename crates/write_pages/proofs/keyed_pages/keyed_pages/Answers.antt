use Rattle.std.proofs.Common.{◌≡◌, ◌∙◌, ◌⊎◌, List, option_map, true, false, true≢false, inr, refl, sym, subst}
use Rattle.columns_base.specs.declared.error.Error.TheVariants.{InvalidArgumentError, NotYetImplemented}
use Rattle.columns_base.specs.declared.error.A.TheVariants.{A8}
use Rattle.columns_base.specs.declared.error.N.TheVariants.{N4, N5}
use Rattle.std.specs.Prelude.{IsTrue}
use Rattle.std.proofs.lemmas.Result.{err_from_is_err_and}
use Rattle.shredding.specs.Parts.{path_slots, path_way}
use Rattle.shredding.specs.Shred.{column}
use Rattle.columns_array.specs.Boxed.{boxed}
use Rattle.columns_core.specs.Shapes.{base, leaf_type}
use Rattle.columns_entries.specs.Entries.{entries_of}
use Rattle.columns_slots.specs.Slots.{IsSound, child_of, type_of}
use Rattle.columns_slots.specs.Tree.{ArrayTree}
use Rattle.levels.specs.declared.nested.Nested.{Nested}
use Rattle.levels.specs.Nested.{parts_of}
use Rattle.nested_paths.specs.Seen.{leaf_slot}
use Rattle.pq_tree.specs.Views.{physical_view, statistics_view}
use Rattle.dictionary_pages.specs.Keys.{AreKeyed, AreRowsOf}
use Rattle.dictionary_pages.specs.Pages.{AreStatedBy}
use Rattle.write_pages.specs.Fits.{is_dictionary_encoding, is_flat_path, is_keyed_in}
use Rattle.write_pages.proofs.ColumnForms.{fit_of_keys_refused, fits_column, keys_are_written, keys_refused, reached_refused}
use Rattle.write_pages.proofs.DictionaryColumns.{all_along, are_keyed, entry_there, keyed_pages_of, not_keyed}
use Rattle.write_pages.proofs.KeyedArrays.{IsKeyed}
use Rattle.write_pages.proofs.keyed_pages.keyed_pages.Goals as goal

pub returns-clause-ok : goal.returns-clause-ok
returns-clause-ok c =
    let a = boxed c.args.array.now in
    let parts = parts_of c.args.nested.now in
    let is : IsKeyed a = subst IsKeyed c.requires.same c.know.ensures.parts in
    let sound : IsSound a = subst IsSound c.requires.same c.know.ensures.sound in
    let whole = c.in_ok-whole.whole in
    let p = physical_view c.args.type_.physical_type in
    let stated = option_map statistics_view c.in_ok-statistics.statistics in
    let yes : IsTrue c.reaches_entries.result = c.if-not-reaches_entries.false in
    let rows : AreRowsOf (leaf_type (type_of whole.array)) (path_way (parts_of whole.nested.items)) (path_slots (leaf_slot whole.array) (parts_of whole.nested.items)) =
    subst (λ (xs : List Nested). AreRowsOf (leaf_type (type_of whole.array)) (path_way (parts_of xs)) (path_slots (leaf_slot whole.array) (parts_of xs))) c.deref.ensures.value (c.reaches_entries.ensures.rows p (entry_there parts a is sound whole c.in_ok-whole.ensures.ok p c.in_ok-check_keyed_fit.ensures.ok.entries) yes) in
    keyed_pages_of parts a is sound whole c.in_ok-whole.ensures.ok c.args.options c.args.type_ c.args.encoding c.has_rows-some_rows.result stated c.in_ok-check_keyed_fit.ensures.ok.entries (record { some = c.has_rows-some_rows.ensures.some; none = c.has_rows-some_rows.ensures.none }) rows
    (subst (λ (xs : List Nested). AreStatedBy c.args.options.write_statistics (leaf_type (type_of whole.array)) p (entries_of (child_of whole.array)) (column (path_way (parts_of xs)) (path_slots (leaf_slot whole.array) (parts_of xs))) stated) c.deref-2.ensures.value c.in_ok-statistics.ensures.ok)

pub returns-clause-fits : goal.returns-clause-fits
returns-clause-fits c =
    let a = boxed c.args.array.now in
    let parts = parts_of c.args.nested.now in
    let is : IsKeyed a = subst IsKeyed c.requires.same c.know.ensures.parts in
    let sound : IsSound a = subst IsSound c.requires.same c.know.ensures.sound in
    let whole = c.in_ok-whole.whole in
    let w = c.in_ok-whole.ensures.ok in
    let p = physical_view c.args.type_.physical_type in
    let fits = c.in_ok-check_keyed_fit.ensures.ok in
    let form = c.in_ok-check_keys_written.ensures.ok in
    let yes : IsTrue c.reaches_entries.result = c.if-not-reaches_entries.false in
    let keyed : AreKeyed whole.array (parts_of whole.nested.items) = subst (λ (xs : List Nested). AreKeyed whole.array (parts_of xs)) c.deref.ensures.value (c.reaches_entries.ensures.exact.0 yes) in
    let rows : AreRowsOf (leaf_type (type_of whole.array)) (path_way (parts_of whole.nested.items)) (path_slots (leaf_slot whole.array) (parts_of whole.nested.items)) =
    subst (λ (xs : List Nested). AreRowsOf (leaf_type (type_of whole.array)) (path_way (parts_of xs)) (path_slots (leaf_slot whole.array) (parts_of xs))) c.deref.ensures.value (c.reaches_entries.ensures.rows p (entry_there parts a is sound whole w p fits.entries) yes) in
    keys_are_written c.args.options c.args.type_ parts a c.args.encoding is sound form.0 (subst (λ (x : ArrayTree). is_keyed_in (is_flat_path parts) (base (type_of x)) ≡ true) c.requires.same form.1) fits.in_bounds (fits_column c.args.options c.args.type_ parts a c.args.encoding is sound fits (all_along parts a is sound whole w rows)) (are_keyed parts a is sound whole w keyed)

pub returns-in_err-check_keys_written-clause-err : goal.returns-in_err-check_keys_written-clause-err
returns-in_err-check_keys_written-clause-err c =
    let a = boxed c.args.array.now in
    let parts = parts_of c.args.nested.now in
    let is : IsKeyed a = subst IsKeyed c.requires.same c.know.ensures.parts in
    let sound : IsSound a = subst IsSound c.requires.same c.know.ensures.sound in
    let e = c.in_err-check_keys_written.field-0.0 in
    let r = err_from_is_err_and c.from_residual.result c.from_residual.ensures.1 in
    rw (r.1, r.2)
    (inr (keys_refused c.args.options c.args.type_ parts a c.args.encoding is sound e
    (subst (λ (x : ArrayTree). ((e ≡ NotYetImplemented N4) × (is_dictionary_encoding c.args.encoding ≡ false)) ⊎ ((e ≡ NotYetImplemented N5) × (is_dictionary_encoding c.args.encoding ≡ true) × (is_keyed_in (is_flat_path parts) (base (type_of x)) ≡ false))) c.requires.same c.in_err-check_keys_written.ensures.err)))

pub returns-in_err-check_keyed_fit-clause-err : goal.returns-in_err-check_keyed_fit-clause-err
returns-in_err-check_keyed_fit-clause-err c =
    let a = boxed c.args.array.now in
    let parts = parts_of c.args.nested.now in
    let is : IsKeyed a = subst IsKeyed c.requires.same c.know.ensures.parts in
    let sound : IsSound a = subst IsSound c.requires.same c.know.ensures.sound in
    let form = c.in_ok-check_keys_written.ensures.ok in
    let r = err_from_is_err_and c.from_residual-in_err-check_keyed_fit.result c.from_residual-in_err-check_keyed_fit.ensures.1 in
    rw (r.1, r.2)
    (inr (fit_of_keys_refused c.args.options c.args.type_ parts a c.args.encoding is sound form.0 (subst (λ (x : ArrayTree). is_keyed_in (is_flat_path parts) (base (type_of x)) ≡ true) c.requires.same form.1) c.in_err-check_keyed_fit.field-0.0 c.in_err-check_keyed_fit.ensures.err))

pub returns-then-not-reaches_entries-clause-err : goal.returns-then-not-reaches_entries-clause-err
returns-then-not-reaches_entries-clause-err c =
    let a = boxed c.args.array.now in
    let parts = parts_of c.args.nested.now in
    let is : IsKeyed a = subst IsKeyed c.requires.same c.know.ensures.parts in
    let sound : IsSound a = subst IsSound c.requires.same c.know.ensures.sound in
    let whole = c.in_ok-whole.whole in
    let w = c.in_ok-whole.ensures.ok in
    let form = c.in_ok-check_keys_written.ensures.ok in
    let no : ¬ AreKeyed whole.array (parts_of whole.nested.items) =
    λ k. true≢false (sym (c.reaches_entries.ensures.exact.1 (subst (λ (xs : List Nested). AreKeyed whole.array (parts_of xs)) (sym c.deref.ensures.value) k)) ∙ c.if-not-reaches_entries.true) in
    inr (reached_refused c.args.options c.args.type_ parts a c.args.encoding is sound form.0 (subst (λ (x : ArrayTree). is_keyed_in (is_flat_path parts) (base (type_of x)) ≡ true) c.requires.same form.1) (not_keyed parts a is sound whole w no) (InvalidArgumentError A8) refl)

pub dictionary_statistics-requires-clause-rows : goal.dictionary_statistics-requires-clause-rows
dictionary_statistics-requires-clause-rows c =
    let a = boxed c.args.array.now in
    let parts = parts_of c.args.nested.now in
    let is : IsKeyed a = subst IsKeyed c.requires.same c.know.ensures.parts in
    let sound : IsSound a = subst IsSound c.requires.same c.know.ensures.sound in
    let whole = c.in_ok-whole.whole in
    let w = c.in_ok-whole.ensures.ok in
    let p = physical_view c.args.type_.physical_type in
    let yes : IsTrue c.reaches_entries.result = c.if-not-reaches_entries.false in
    subst (λ (xs : List Nested). AreRowsOf (leaf_type (type_of whole.array)) (path_way (parts_of xs)) (path_slots (leaf_slot whole.array) (parts_of xs))) (c.deref.ensures.value ∙ sym c.deref-2.ensures.value)
    (c.reaches_entries.ensures.rows p (entry_there parts a is sound whole w p c.in_ok-check_keyed_fit.ensures.ok.entries) yes)
