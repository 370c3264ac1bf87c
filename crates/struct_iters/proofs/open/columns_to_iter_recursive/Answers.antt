use Rattle.std.proofs.Common.{◌≡◌, ◌≢◌, ◌∙◌, Some, map, refl, sym, subst, true≢false}
use Rattle.std.proofs.lemmas.Result.{err_from_is_err_and}
use Rattle.columns_core.specs.View.{field_view}
use Rattle.assembly.specs.Opened.{AreOpen, physical_in}
use Rattle.assembly.specs.Paths.{field_paths, path_view}
use Rattle.struct_iters.proofs.Opening.{no-fault-of-size, opened, same-error, unread-of-no-size}
use Rattle.struct_iters.proofs.open.columns_to_iter_recursive.Goals as goal

pub returns-in_err-paths-clause-size : goal.returns-in_err-paths-clause-size
returns-in_err-paths-clause-size g c =
    let some : c.args.chunk_size ≢ Some 0 = λ e. true≢false (sym (rw e at c.eq.ensures) ∙ c.if-eq.false) in
    let p = err_from_is_err_and c.from_residual.result c.from_residual.ensures.1 in
    rw (p.1, p.2) (λ a. absurd (no-fault-of-size (field_view c.args.field) _ c.in_err-paths.ensures.err (same-error _ _ a)), λ e. absurd (some e))

pub returns-in_err-readers-clause-size : goal.returns-in_err-readers-clause-size
returns-in_err-readers-clause-size g c =
    let some : c.args.chunk_size ≢ Some 0 = λ e. true≢false (sym (rw e at c.eq.ensures) ∙ c.if-eq.false) in
    let p = err_from_is_err_and c.from_residual-in_err-readers.result c.from_residual-in_err-readers.ensures.1 in
    rw (p.1, p.2) (λ a. absurd (unread-of-no-size _ _ _ c.in_err-readers.ensures.err (same-error _ _ a)), λ e. absurd (some e))

pub returns-clause-ok : goal.returns-clause-ok
returns-clause-ok g c = λ above xs h.
    let outcomes = map g.I.Pages.outcomes c.args.columns.items in
    let physicals = map physical_in c.args.types.items in
    let paths_are : map path_view c.in_ok-paths.paths.items ≡ field_paths c.args.init.items (field_view c.args.field) = rw c.deref.ensures.value at c.in_ok-paths.ensures.ok.0 in
    let are : AreOpen c.args.chunk_size c.args.num_rows xs (map path_view c.in_ok-paths.paths.items) outcomes physicals = subst (λ ps. AreOpen c.args.chunk_size c.args.num_rows xs ps outcomes physicals) (sym paths_are) h.are in
    opened above c.args.field xs c.args.init.items outcomes physicals c.args.num_rows c.args.chunk_size c.in_ok-readers.readers.items _
    h c.in_ok-paths.ensures.ok.1 (c.in_ok-readers.ensures.ok xs (rw (c.deref-2.ensures.value, c.deref-3.ensures.value) are)) c.in_ok-columns.ensures.ok refl
