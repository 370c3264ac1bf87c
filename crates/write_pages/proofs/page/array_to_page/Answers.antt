use Rattle.std.proofs.Common.{Bool, None, refl, subst}
use Rattle.std.proofs.lemmas.Result.{err_from_is_err_and}
use Rattle.columns_base.specs.declared.error.Error.TheVariants.{NotYetImplemented, Overflow}
use Rattle.columns_base.specs.declared.error.N.TheVariants.{N4}
use Rattle.columns_base.specs.declared.error.V.TheVariants.{V3}
use Rattle.columns_array.specs.Boxed.{boxed}
use Rattle.columns_core.specs.Shapes.{base, leaf_type}
use Rattle.columns_slots.specs.Slots.{type_of}
use Rattle.levels.specs.Nested.{parts_of}
use Rattle.pq_tree.specs.Views.{physical_view}
use Rattle.pq_tree.specs.TreeViews.{leaf_view}
use Rattle.shredding.specs.Parts.{path_slots, path_way}
use Rattle.nested_paths.specs.Seen.{leaf_slot}
use Rattle.write_values.specs.Deltas.{page_encoding}
use Rattle.write_pages.specs.Fits.{is_flat_path}
use Rattle.write_pages.specs.Holds.{HoldsRows, wants_deltas}
use Rattle.write_pages.proofs.WrittenForms.{deltas_written}
use Rattle.write_pages.proofs.WidePieces.{more_cause, no_cause}
use Rattle.write_pages.proofs.PageTable.{fits_served}
use Rattle.write_pages.proofs.page.array_to_page.Goals as goal

pub seen_page-requires-clause-served : goal.seen_page-requires-clause-served
seen_page-requires-clause-served c =
    fits_served (is_flat_path (parts_of c.args.nested.now)) (base (type_of (boxed c.args.array.now))) (physical_view c.args.type_.physical_type) c.in_ok-check_written.ensures.ok.1 c.requires.fits.physical

pub returns-clause-ok : goal.returns-clause-ok
returns-clause-ok c =
    let t = type_of (boxed c.args.array.now) in
    let p = physical_view c.args.type_.physical_type in
    let written = deltas_written t p (parts_of c.args.nested.now) c.args.encoding c.in_ok-check_written.ensures.ok.0 (fits_served (is_flat_path (parts_of c.args.nested.now)) (base t) p c.in_ok-check_written.ensures.ok.1 c.requires.fits.physical) in
    let page = subst (λ (b : Bool). HoldsRows c.args.options (page_encoding b (leaf_type t) p) (leaf_type t) (leaf_view c.args.type_) p (path_way (parts_of c.args.nested.now)) None (path_slots (leaf_slot (boxed c.args.array.now)) (parts_of c.args.nested.now)) c.in_ok-page.page) c.wants_deltas-with_deltas.ensures c.in_ok-page.ensures.ok in
    (c.in_ok-page.page, refl, page_encoding (wants_deltas (parts_of c.args.nested.now) c.args.encoding) (leaf_type t) p, written, page)

pub check_held-requires-clause-served : goal.check_held-requires-clause-served
check_held-requires-clause-served c =
    fits_served (is_flat_path (parts_of c.args.nested.now)) (base (type_of (boxed c.args.array.now))) (physical_view c.args.type_.physical_type) c.in_ok-check_written.ensures.ok.1 c.requires.fits.physical

pub returns-in_err-page-clause-form : goal.returns-in_err-page-clause-form
returns-in_err-page-clause-form c =
    let r = err_from_is_err_and c.from_residual-in_err-page.result c.from_residual-in_err-page.ensures.1 in
    rw (r.1, r.2) (no_cause c.in_err-page.field-0.0 (NotYetImplemented N4) _ c.in_ok-check_written.ensures.ok.0 (λ e. cc) c.in_err-page.ensures.err)

pub returns-in_err-page-clause-too_large : goal.returns-in_err-page-clause-too_large
returns-in_err-page-clause-too_large c =
    let r = err_from_is_err_and c.from_residual-in_err-page.result c.from_residual-in_err-page.ensures.1 in
    let ok = c.in_ok-check_written.ensures.ok in
    rw (r.1, r.2) (more_cause c.in_err-page.field-0.0 (Overflow V3) _ _ (λ h. (ok.0, ok.1, c.in_ok-check_held.ensures.ok, h)) (λ h. h.3) c.in_err-page.ensures.too_large)
