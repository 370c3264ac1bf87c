use Rattle.std.proofs.Common.{List, drop}
use Rattle.columns_core.specs.View.{fields_view}
use Rattle.pq_tree.specs.Tree.{Leaf, columns_of}
use Rattle.pq_tree.specs.Views.{group_view}
use Rattle.rewrite_whole.specs.Opening.{AtField}
use Rattle.rewrite_whole.specs.Ready.{fields_in, tree_in}
use Rattle.rewrite_whole.proofs.open.open_group.Given as goal

abbrev pub invariant-loop-i : goal.invariant-loop-i
invariant-loop-i l =
    (others : List Leaf)
    × AtField l.job.input.now l.job.place l.fn.num_rows l.job.options.now.chunk_size (fields_in l.job) (columns_of (tree_in l.job)) (group_view l.group).chunks
    (fields_view (drop l.i l.field-items)) others l.left (drop l.i l.job.plan.now.encodings.items) l.iters.items
