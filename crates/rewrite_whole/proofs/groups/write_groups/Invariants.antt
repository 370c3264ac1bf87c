use Rattle.std.proofs.Common.{map, take}
use Rattle.pq_tree.specs.Views.{group_view}
use Rattle.rewrite_whole.specs.Ready.{DidAll}
use Rattle.rewrite_whole.proofs.groups.write_groups.Given as goal

abbrev pub invariant-loop-group : goal.invariant-loop-group
invariant-loop-group g l = DidAll l.job (map group_view (take l.group-index l.job.metadata.now.row_groups.items)) (g.V.View.seen l.fn.view) (g.V.View.seen l.view) l.output
