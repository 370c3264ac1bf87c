use Rattle.std.proofs.Common.{◌≡◌, ◌∙◌, Bool, List, None, Some, ap, inr, subst, sym, rules, arith}
use Rattle.std.proofs.lemmas.List.{length-map}
use Rattle.std.proofs.lemmas.Result.{err_from_is_err_and}
use Rattle.columns_array.specs.Boxed.{boxed}
use Rattle.columns_core.specs.Shapes.{leaf_type}
use Rattle.columns_slots.specs.Slots.{type_of}
use Rattle.columns_slots.specs.Tree.{ArrayTree}
use Rattle.levels.specs.declared.nested.Nested.{Nested}
use Rattle.levels.specs.Nested.{part_of, parts_of}
use Rattle.shredding.specs.Cut.{cut}
use Rattle.shredding.specs.Slot.{Slot}
use Rattle.pq_tree.specs.Views.{physical_view}
use Rattle.write_values.specs.Deltas.{page_encoding}
use Rattle.write_pages.specs.Entries.{leaf_entries}
use Rattle.write_pages.specs.Holds.{rows_of}
use Rattle.write_pages.specs.KnownColumns.{IsKnown}
use Rattle.write_pages.specs.Sized.{IsReady}
use Rattle.write_pages.proofs.ColumnForms.{are_written, fit_refused, form_refused, wide_refused}
use Rattle.write_pages.proofs.KeyedArrays.{no_entries}
use Rattle.write_pages.proofs.ValuePages.{value_encoding, value_entries, value_owes, value_pieces, value_stated}
use Rattle.write_pages.proofs.WrittenForms.{deltas_written}
use Rattle.write_pages.proofs.leaf_pages.leaf_pages.Goals as goal

pub invariant_of-result : goal.invariant_of-result
invariant_of-result c =
    let a = boxed c.args.primitive_array.now in
    let p = physical_view c.args.type_.physical_type in
    let path = c.args.nested.now in
    let wanted = c.args.options.write_statistics in
    let same : boxed c.in_ok-clone.field-0 ≡ a = search rules in
    let ready : IsReady a (parts_of path) p c.page_rows-per_page.result = record {
      in_bounds = c.in_ok-check_fit.ensures.in_bounds;
      few = omega (arith, length-map path part_of, c.requires.parts);
      leaf = search rules;
      reached = search rules;
      served = c.in_ok-check_fit.ensures.served;
      held = c.in_ok-whole.ensures.held;
      some = c.page_rows-per_page.ensures.some;
    } in
    subst (λ (xs : List Nested). IsReady (boxed c.in_ok-clone.field-0) (parts_of xs) p c.page_rows-per_page.result × IsKnown wanted (boxed c.in_ok-clone.field-0) (parts_of xs) p c.in_ok-whole.whole) (sym c.in_ok-copy_path.ensures.ok)
    (subst (λ (x : ArrayTree). IsReady x (parts_of path) p c.page_rows-per_page.result × IsKnown wanted x (parts_of path) p c.in_ok-whole.whole) (sym same) (ready, c.in_ok-whole.ensures.ok))

pub returns-clause-ok : goal.returns-clause-ok
returns-clause-ok c =
    let a = boxed c.args.primitive_array.now in
    let p = physical_view c.args.type_.physical_type in
    let parts = parts_of c.args.nested.now in
    let same : boxed c.in_ok-clone.field-0 ≡ a = search rules in
    let rows : rows_of (parts_of c.in_ok-copy_path.field-0.items) (boxed c.in_ok-clone.field-0) ≡ rows_of parts a = ap (rows_of (parts_of c.in_ok-copy_path.field-0.items)) same ∙ ap (λ (xs : List Nested). rows_of (parts_of xs) a) c.in_ok-copy_path.ensures.ok in
    let none : leaf_entries a ≡ None = no_entries a c.know.ensures c.requires.plain in
    let rule = c.page_rows-per_page.ensures.rule (leaf_type (type_of a)) p a c.in_ok-whole.ensures.measured in
    let written = deltas_written (type_of a) p parts c.args.encoding c.in_ok-check_written.ensures.ok.0 c.in_ok-check_fit.ensures.served in
    record {
      options = search rules;
      encoding =
          value_encoding (leaf_entries a) none (leaf_type (type_of a)) parts c.args.encoding (page_encoding c.wants_deltas.result (leaf_type (type_of (boxed c.in_ok-clone.field-0))) p)
          (written
          ∙ (ap (λ (b : Bool). Some (page_encoding b (leaf_type (type_of a)) p)) (sym c.wants_deltas.ensures)
          ∙ ap (λ (x : ArrayTree). Some (page_encoding c.wants_deltas.result (leaf_type (type_of x)) p)) (sym same)));
      type = search rules;
      node = search rules;
      physical = search rules;
      way = search rules;
      rows = search rules;
      entries = sym none;
      stored_entries = value_entries (leaf_entries a) none (leaf_type (type_of a)) p;
      owes = value_owes (leaf_entries a) none (rows_of parts a);
      statistics = value_stated (leaf_entries a) none c.args.options.write_statistics (leaf_type (type_of a)) p _ _ c.in_ok-whole.ensures.stated;
      pieces = value_pieces (leaf_entries a) none c.args.options.data_pagesize_limit (leaf_type (type_of a)) p _ rule.stored (rows_of parts a) _ rule.are_stored rule.have_bytes (ap (λ (xs : List Slot). cut xs (Some c.page_rows-per_page.result)) rows ∙ rule.pieces);
    }

pub returns-clause-fits : goal.returns-clause-fits
returns-clause-fits c =
    are_written c.args.options c.args.type_ (parts_of c.args.nested.now) (boxed c.args.primitive_array.now) c.args.encoding c.requires.plain c.in_ok-check_written.ensures.ok.0 c.in_ok-check_written.ensures.ok.1 c.in_ok-check_fit.ensures.in_bounds c.in_ok-check_fit.ensures.fits

pub returns-in_err-check_written-clause-err : goal.returns-in_err-check_written-clause-err
returns-in_err-check_written-clause-err c =
    let r = err_from_is_err_and c.from_residual.result c.from_residual.ensures.1 in
    rw (r.1, r.2)
    (inr (form_refused c.args.options c.args.type_ (parts_of c.args.nested.now) (boxed c.args.primitive_array.now) c.args.encoding c.requires.plain c.in_err-check_written.field-0.0 c.in_err-check_written.ensures.err))

pub returns-in_err-check_fit-clause-err : goal.returns-in_err-check_fit-clause-err
returns-in_err-check_fit-clause-err c =
    let r = err_from_is_err_and c.from_residual-in_err-check_fit.result c.from_residual-in_err-check_fit.ensures.1 in
    rw (r.1, r.2)
    (fit_refused c.args.options c.args.type_ (parts_of c.args.nested.now) (boxed c.args.primitive_array.now) c.args.encoding c.requires.plain c.in_err-check_fit.field-0.0 c.in_ok-check_written.ensures.ok.0 c.in_ok-check_written.ensures.ok.1 c.in_err-check_fit.ensures.err)

pub returns-in_err-whole-clause-err : goal.returns-in_err-whole-clause-err
returns-in_err-whole-clause-err c =
    let r = err_from_is_err_and c.from_residual-in_err-whole.result c.from_residual-in_err-whole.ensures.1 in
    rw (r.1, r.2)
    (wide_refused c.args.options c.args.type_ (parts_of c.args.nested.now) (boxed c.args.primitive_array.now) c.args.encoding c.requires.plain c.in_err-whole.field-0.0 c.in_ok-check_written.ensures.ok.0 c.in_ok-check_written.ensures.ok.1 c.in_ok-check_fit.ensures.in_bounds c.in_ok-check_fit.ensures.fits c.in_err-whole.ensures.err)
