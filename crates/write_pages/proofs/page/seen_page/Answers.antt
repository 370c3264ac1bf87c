use Rattle.std.proofs.Common.{◌≡◌, ◌∙◌, ap, refl, sym}
use Rattle.std.proofs.lemmas.Result.{err_from_is_err_and}
use Rattle.columns_array.specs.Boxed.{boxed}
use Rattle.columns_base.specs.declared.error.Error.TheVariants.{Overflow}
use Rattle.columns_base.specs.declared.error.V.TheVariants.{V3}
use Rattle.levels.specs.Nested.{parts_of}
use Rattle.nested_paths.specs.Seen.{leaf_slot}
use Rattle.shredding.specs.Parts.{path_way, path_slots}
use Rattle.write_pages.proofs.HiddenPaths.{others_told}
use Rattle.write_pages.proofs.WidePieces.{more_cause, past_moved}
use Rattle.write_pages.proofs.page.seen_page.Goals as goal

pub page_of_rows-requires-clause-nulls : goal.page_of_rows-requires-clause-nulls
page_of_rows-requires-clause-nulls c =
    others_told (boxed c.args.array.now) (parts_of c.args.nested.now) c.know.ensures (sym c.is_null.ensures ∙ c.if-not-is_null.true)

pub returns-in_err-page-clause-too_large : goal.returns-in_err-page-clause-too_large
returns-in_err-page-clause-too_large c =
    let s = c.in_ok-seen.ensures.ok in
    let own = leaf_slot (boxed c.args.array.now) in
    let path = ap parts_of c.deref.ensures.value in
    let way : path_way (parts_of c.deref.result.now) ≡ path_way (parts_of c.args.nested.now) = ap path_way path ∙ s.way in
    let rows : path_slots own (parts_of c.deref.result.now) ≡ path_slots own (parts_of c.args.nested.now) = ap (path_slots own) path ∙ s.rows in
    let r = err_from_is_err_and c.from_residual-in_err-page.result c.from_residual-in_err-page.ensures.1 in
    rw (r.1, r.2)
    (more_cause c.in_err-page.field-0.0 (Overflow V3) _ _ (past_moved _ _ _ _ _ _ _ _ refl refl way rows) (past_moved _ _ _ _ _ _ _ _ refl refl (sym way) (sym rows)) c.in_err-page.ensures.too_large)
