use Rattle.std.proofs.Common.{◌≡◌, ◌∙◌, ℕ, List, ap, inr, subst, sym}
use Rattle.std.proofs.lemmas.Result.{err_from_is_err_and}
use Rattle.shredding.specs.Parts.{path_way, path_slots}
use Rattle.columns_array.specs.Boxed.{boxed}
use Rattle.columns_core.specs.Shapes.{leaf_type}
use Rattle.levels.specs.declared.nested.Nested.{Nested}
use Rattle.levels.specs.Nested.{parts_of}
use Rattle.nested_paths.specs.Seen.{leaf_slot}
use Rattle.pq_tree.specs.Views.{physical_view}
use Rattle.write_pages.specs.CutColumns.{IsCutColumn}
use Rattle.write_pages.specs.Holds.{rows_of}
use Rattle.write_pages.proofs.Moved.{all_rows}
use Rattle.write_pages.proofs.WidePieces.{wide_moved}
use Rattle.write_pages.proofs.known_column.held_rows.Goals as goal

pub returns-clause-ok : goal.returns-clause-ok
returns-clause-ok c =
    subst (λ (n : ℕ). IsCutColumn (boxed c.args.array.now) (parts_of c.args.nested.now) 0 n c.in_ok-rows.rows) c.slot_count.ensures c.in_ok-rows.ensures.ok

pub returns-clause-held : goal.returns-clause-held
returns-clause-held c = λ w.
    let h = c.in_ok-rows.ensures.ok in
    let own = boxed c.in_ok-rows.rows.array in
    let parts = parts_of c.args.nested.now in
    let rows : path_slots (leaf_slot own) (parts_of c.deref.result.now) ≡ rows_of parts (boxed c.args.array.now) =
    ap (λ (xs : List Nested). path_slots (leaf_slot own) (parts_of xs)) c.deref.ensures.value ∙ (h.rows ∙ all_rows parts (boxed c.args.array.now) c.slot_count.result c.slot_count.ensures) in
    let way : path_way (parts_of c.deref.result.now) ≡ path_way parts = ap (λ (xs : List Nested). path_way (parts_of xs)) c.deref.ensures.value ∙ h.way in
    c.in_ok-check_held.ensures.ok (wide_moved _ _ (physical_view c.args.physical_type) _ _ _ _ (sym (ap leaf_type h.type)) (sym way) (sym rows) w)

pub returns-in_err-check_held-clause-err : goal.returns-in_err-check_held-clause-err
returns-in_err-check_held-clause-err c =
    let h = c.in_ok-rows.ensures.ok in
    let own = boxed c.in_ok-rows.rows.array in
    let parts = parts_of c.args.nested.now in
    let rows : path_slots (leaf_slot own) (parts_of c.deref.result.now) ≡ rows_of parts (boxed c.args.array.now) =
    ap (λ (xs : List Nested). path_slots (leaf_slot own) (parts_of xs)) c.deref.ensures.value ∙ (h.rows ∙ all_rows parts (boxed c.args.array.now) c.slot_count.result c.slot_count.ensures) in
    let way : path_way (parts_of c.deref.result.now) ≡ path_way parts = ap (λ (xs : List Nested). path_way (parts_of xs)) c.deref.ensures.value ∙ h.way in
    let r = err_from_is_err_and c.from_residual-in_err-check_held.result c.from_residual-in_err-check_held.ensures.1 in
    let e = c.in_err-check_held.ensures.err in
    rw (r.1, r.2) (inr (e.0, wide_moved _ _ (physical_view c.args.physical_type) _ _ _ _ (ap leaf_type h.type) way rows e.1))
