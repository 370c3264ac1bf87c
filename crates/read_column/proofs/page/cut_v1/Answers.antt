use Rattle.std.proofs.lemmas.Result.{IfErr-weaker}
use Rattle.pq_tree.specs.Counted.{IsCounted}
use Rattle.pq_tree.specs.declared.types.TypedPageHeader.TheVariants as T
use Rattle.pq_pages.specs.Outcomes.{levels_in}
use Rattle.read_column.proofs.page.cut_v1.Goals as goal

pub returns-clause-err : goal.returns-clause-err
returns-clause-err c =
    let counted : IsCounted (T.Data c.args.page.now.header) = rw c.requires (rw c.requires at c.header-counted.ensures.makes.values) in
    IfErr-weaker c.split_shown.result _ _ (λ e h. (h.0, λ l r d s split. h.1 s ((c.splits_are_of_pages.ensures l c.args.page.now.header (levels_in c.args.page.now.descriptor) c.args.page.now.buffer s r d counted).1 split))) c.split_shown.ensures.refused
