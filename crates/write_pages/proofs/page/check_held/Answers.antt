use Rattle.std.proofs.Common.{refl, true≢false, sym, ◌∙◌}
use Rattle.columns_array.specs.Boxed.{boxed}
use Rattle.pq_tree.specs.Views.{physical_view}
use Rattle.write_pages.proofs.PageRows.{rows_wide}
use Rattle.write_pages.proofs.page.check_held.Goals as goal

pub returns-then-has_wide-clause-err : goal.returns-then-has_wide-clause-err
returns-then-has_wide-clause-err c =
    (refl, (rows_wide (boxed c.args.array.now) (physical_view c.args.physical_type) c.args.nested.now c.know.ensures c.requires.served).0 (c.has_wide.ensures.0 c.if-has_wide.true))

pub returns-clause-ok : goal.returns-clause-ok
returns-clause-ok c = λ w.
    true≢false (sym (c.has_wide.ensures.1 ((rows_wide (boxed c.args.array.now) (physical_view c.args.physical_type) c.args.nested.now c.know.ensures c.requires.served).1 w)) ∙ c.if-has_wide.false)
