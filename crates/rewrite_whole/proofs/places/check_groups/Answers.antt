use Rattle.std.proofs.Common.{◌∙◌, get_or, ap, refl, arith}
use Rattle.pq_tree.specs.Tree.{columns_of}
use Rattle.pq_tree.specs.TreeViews.{metadata_view}
use Rattle.pq_tree.specs.Views.{group_view}
use Rattle.pq_headline.specs.Opened.{GroupIsPlaced}
use Rattle.rewrite_whole.proofs.Placing.{stage_refused}
use Rattle.rewrite_whole.proofs.Zips.{all_on, all_taken}
use Rattle.rewrite_whole.proofs.places.check_groups.Goals as goal

pub returns-in-Err-clause-err : goal.returns-in-Err-clause-err
returns-in-Err-clause-err c =
    let is = c.group-item.is ∙ ap (λ xs. get_or xs c.loop-group.group-index c.group-item.result) c.deref-group-items.ensures.value in
    stage_refused c.args.place (metadata_view c.args.metadata.now) c.args.metadata.now.row_groups.items c.loop-group.group-index c.group-item.result c.in-Err.error refl (omega (arith, c.deref-group-items.ensures.len)) is
    (c.in-Err.ensures.err (columns_of (metadata_view c.args.metadata.now).schema) c.columns-columns.ensures)

pub loop-group-preserved : goal.loop-group-preserved
loop-group-preserved c =
    let is = c.group-item.is ∙ ap (λ xs. get_or xs c.loop-group.group-index c.group-item.result) c.deref-group-items.ensures.value in
    all_on (GroupIsPlaced c.args.place (columns_of (metadata_view c.args.metadata.now).schema)) group_view c.args.metadata.now.row_groups.items c.loop-group.group-index c.group-item.result (omega (arith, c.deref-group-items.ensures.len)) is
    (c.in_default.ensures.ok (columns_of (metadata_view c.args.metadata.now).schema) c.columns-columns.ensures) c.loop-group.invariant

pub returns-clause-ok : goal.returns-clause-ok
returns-clause-ok c = all_taken (GroupIsPlaced c.args.place (columns_of (metadata_view c.args.metadata.now).schema)) group_view c.args.metadata.now.row_groups.items c.loop-group.group-index (omega (arith, c.deref-group-items.ensures.len)) c.loop-group.invariant
