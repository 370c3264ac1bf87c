use Rattle.std.proofs.Common.{◌≤◌, drop}
use Rattle.pq_tree.specs.Tree.{nesting_of}
use Rattle.pq_tree.specs.TreeViews.{trees_view}
use Rattle.write_groups.proofs.depth.+nesting.Given as goal

abbrev pub invariant-nest_within-loop-tree : goal.invariant-nest_within-loop-tree
invariant-nest_within-loop-tree l = record {
  enough : nesting_of (trees_view (drop l.tree-index l.tree-items)) ≤ l.depth → nesting_of (trees_view l.trees.items) ≤ l.depth;
  needed : nesting_of (trees_view l.trees.items) ≤ l.depth → nesting_of (trees_view (drop l.tree-index l.tree-items)) ≤ l.depth;
}
