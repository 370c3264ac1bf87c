use Rattle.std.proofs.Common.{◌≡◌, ◌≤◌, drop}
use Rattle.pq_tree.specs.Tree.{nesting_of}
use Rattle.pq_tree.specs.TreeViews.{trees_view}
use Rattle.pq_headline.specs.Stages.{trees_with_columns}
use Rattle.rewrite_whole.proofs.misfit.next_tree.Given as goal

abbrev pub invariant-loop-i : goal.invariant-loop-i
invariant-loop-i l = record {
  left : trees_with_columns (trees_view (drop l.fn.from l.trees)) ≡ trees_with_columns (trees_view (drop l.i l.trees));
  shallow : nesting_of (trees_view (drop l.i l.trees)) ≤ 128;
}
