use Rattle.pq_tree.specs.Views.{group_view}
use Rattle.rewrite_whole.specs.Ready.{AtPiece}
use Rattle.rewrite_whole.proofs.groups.write_group.Given as goal

abbrev pub invariant-pieces : goal.invariant-pieces
invariant-pieces g l = AtPiece l.job l.rows (group_view l.group) l.iters.items l.left (g.V.View.seen l.fn.view) (g.V.View.seen l.view) l.fn.output l.output

abbrev pub decreases-pieces : goal.decreases-pieces
decreases-pieces g l = l.left
