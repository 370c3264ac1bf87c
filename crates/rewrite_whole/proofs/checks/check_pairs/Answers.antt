use Rattle.std.proofs.Common.{◌∙◌, inr, refl, get_or, ap, arith}
use Rattle.pq_tree.specs.Views.{group_view}
use Rattle.rewrite_whole.specs.Claims.{group_claims}
use Rattle.rewrite_whole.proofs.Sums.{one_more, one_within}
use Rattle.rewrite_whole.proofs.checks.check_pairs.Goals as goal

pub returns-in-None-clause-err : goal.returns-in-None-clause-err
returns-in-None-clause-err c =
    let is = c.group-item.is ∙ ap (λ xs. get_or xs c.loop-group.group-index c.group-item.result) c.deref-group-items.ensures.value in
    inr (refl, omega (arith, one_within group_claims group_view c.args.metadata.now.row_groups.items c.loop-group.group-index c.group-item.result (omega (arith, c.deref-group-items.ensures.len)) is, c.loop-group.invariant, c.in-None.ensures))

pub loop-group-preserved : goal.loop-group-preserved
loop-group-preserved c =
    let is = c.group-item.is ∙ ap (λ xs. get_or xs c.loop-group.group-index c.group-item.result) c.deref-group-items.ensures.value in
    omega (arith, one_more group_claims group_view c.args.metadata.now.row_groups.items c.loop-group.group-index c.group-item.result (omega (arith, c.deref-group-items.ensures.len)) is, c.loop-group.invariant, c.in-Some.ensures)
