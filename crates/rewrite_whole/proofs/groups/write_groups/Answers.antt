use Rattle.std.proofs.Common.{◌++◌, ◌∙◌, map, take, get_or, ap, sym, subst, arith}
use Rattle.pq_tree.specs.Views.{group_view}
use Rattle.pq_headline.specs.Arrays.{seen_in}
use Rattle.rewrite_whole.specs.Ready.{DidAll}
use Rattle.rewrite_whole.proofs.Middles.{did_none, did_more, one_of, sees_all, some_refuses}
use Rattle.rewrite_whole.proofs.Zips.{taken_on}
use Rattle.rewrite_whole.proofs.groups.write_groups.Goals as goal

pub loop-group-init : goal.loop-group-init
loop-group-init g c = did_none c.args.job.now (g.V.View.seen c.args.view.now) c.args.output.now c.requires.empty

pub write_group-requires-clause-group : goal.write_group-requires-clause-group
write_group-requires-clause-group g c =
    one_of c.args.job.now c.loop-group.group-index c.group-item.result c.requires.ready (omega (arith, c.deref-group-items.ensures.len)) (c.group-item.is ∙ ap (λ gs. get_or gs c.loop-group.group-index c.group-item.result) c.deref-group-items.ensures.value)

pub loop-group-preserved : goal.loop-group-preserved
loop-group-preserved g c =
    let is = c.group-item.is ∙ ap (λ gs. get_or gs c.loop-group.group-index c.group-item.result) c.deref-group-items.ensures.value in
    subst (λ ms. DidAll c.args.job.now ms (g.V.View.seen c.args.view.now) (g.V.View.seen c.write_group.new.view) c.write_group.new.output) (sym (taken_on group_view c.args.job.now.metadata.now.row_groups.items c.loop-group.group-index c.group-item.result (omega (arith, c.deref-group-items.ensures.len)) is))
    (did_more c.args.job.now (map group_view (take c.loop-group.group-index c.args.job.now.metadata.now.row_groups.items)) (group_view c.group-item.result) (g.V.View.seen c.args.view.now) (g.V.View.seen c.loop-group.view) (g.V.View.seen c.write_group.new.view) c.loop-group.output c.write_group.new.output
    c.loop-group.invariant c.in-Ok.ensures.ok)

pub returns-in-Err-clause-err : goal.returns-in-Err-clause-err
returns-in-Err-clause-err g c =
    let is = c.group-item.is ∙ ap (λ gs. get_or gs c.loop-group.group-index c.group-item.result) c.deref-group-items.ensures.value in
    some_refuses c.args.job.now c.loop-group.group-index c.group-item.result c.in-Err.error (omega (arith, c.deref-group-items.ensures.len)) is c.in-Err.ensures.err

pub write_group-requires-clause-output : goal.write_group-requires-clause-output
write_group-requires-clause-output g c = (c.loop-group.invariant.chunks, c.loop-group.invariant.output_is)

pub returns-in-Err-clause-grows : goal.returns-in-Err-clause-grows
returns-in-Err-clause-grows g c =
    let d = c.loop-group.invariant in
    let grown = c.write_group.ensures.grows in
    (map seen_in d.chunks ++ grown.0, sees_all (g.V.View.seen c.args.view.now) (g.V.View.seen c.loop-group.view) (g.V.View.seen c.write_group.new.view) (map seen_in d.chunks) grown.0 d.sees grown.1)

pub returns-clause-grows : goal.returns-clause-grows
returns-clause-grows g c = (map seen_in c.loop-group.invariant.chunks, c.loop-group.invariant.sees)
