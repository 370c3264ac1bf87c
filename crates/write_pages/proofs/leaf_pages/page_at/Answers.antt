use Rattle.std.proofs.Common.{◌≡◌, ◌∙◌, List, ap, subst}
use Rattle.std.proofs.lemmas.Result.{err_from_is_err_and}
use Rattle.pq_tree.specs.Physical.{Physical}
use Rattle.shredding.specs.Parts.{path_way, path_slots}
use Rattle.columns_array.specs.Boxed.{boxed}
use Rattle.columns_core.specs.Shapes.{leaf_type}
use Rattle.columns_slots.specs.Slots.{type_of}
use Rattle.levels.specs.declared.nested.Nested.{Nested}
use Rattle.levels.specs.Nested.{parts_of}
use Rattle.nested_paths.specs.Seen.{leaf_slot}
use Rattle.pq_tree.specs.Views.{physical_view}
use Rattle.shredding.specs.Shred.{column}
use Rattle.write_values.specs.Decimals.{HasWide}
use Rattle.write_pages.specs.Holds.{rows_of}
use Rattle.write_pages.proofs.WidePieces.{physical_in, past_cause, past_moved, piece_wide, wide_moved}
use Rattle.write_pages.proofs.leaf_pages.page_at.Goals as goal

pub page_of_rows-requires-clause-held : goal.page_of_rows-requires-clause-held
page_of_rows-requires-clause-held c = λ w.
    let h = c.in_ok-rows.ensures.ok in
    let a = boxed c.args.array.now in
    let parts = parts_of c.args.nested.now in
    let same : physical_view c.in_ok-type_.type_.physical_type ≡ physical_view c.args.type_.now.physical_type = ap physical_in c.in_ok-type_.ensures.same in
    c.requires.held
    (piece_wide (leaf_type (type_of a)) (physical_view c.args.type_.now.physical_type) (path_way parts) (rows_of parts a) c.args.first c.args.count
    (wide_moved _ _ (physical_view c.args.type_.now.physical_type) _ _ _ _ (ap leaf_type h.type) (ap (λ (xs : List Nested). path_way (parts_of xs)) c.deref.ensures.value ∙ h.way)
    (ap (λ (xs : List Nested). path_slots (leaf_slot (boxed c.in_ok-rows.rows.array)) (parts_of xs)) c.deref.ensures.value ∙ h.rows)
    (subst (λ (q : Physical). HasWide (leaf_type (type_of (boxed c.in_ok-rows.rows.array))) q (column (path_way (parts_of c.deref.result.now)) (path_slots (leaf_slot (boxed c.in_ok-rows.rows.array)) (parts_of c.deref.result.now)))) same w)))

pub returns-in_err-page-clause-err : goal.returns-in_err-page-clause-err
returns-in_err-page-clause-err c =
    let h = c.in_ok-rows.ensures.ok in
    let same : physical_view c.in_ok-type_.type_.physical_type ≡ physical_view c.args.type_.now.physical_type = ap physical_in c.in_ok-type_.ensures.same in
    let r = err_from_is_err_and c.from_residual-in_err-page.result c.from_residual-in_err-page.ensures.1 in
    rw (r.1, r.2)
    (past_cause c.in_err-page.field-0.0 _ _
    (past_moved _ _ _ _ _ _ _ _ (ap leaf_type h.type) same (ap (λ (xs : List Nested). path_way (parts_of xs)) c.deref.ensures.value ∙ h.way)
    (ap (λ (xs : List Nested). path_slots (leaf_slot (boxed c.in_ok-rows.rows.array)) (parts_of xs)) c.deref.ensures.value ∙ h.rows)) c.in_err-page.ensures.too_large c.in_err-page.ensures.err)
