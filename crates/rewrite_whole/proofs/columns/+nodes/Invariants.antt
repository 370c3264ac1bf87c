use Rattle.std.proofs.Common.{◌≡◌, ◌≤◌, drop, length}
use Rattle.pq_tree.specs.Tree.{leaves_of, nesting_of}
use Rattle.pq_tree.specs.TreeViews.{trees_view}
use Rattle.rewrite_whole.proofs.columns.+nodes.Given as goal

abbrev pub invariant-hold_column-loop-node : goal.invariant-hold_column-loop-node
invariant-hold_column-loop-node l =
    record {
      left : length (leaves_of (trees_view (drop l.node-index l.node-items))) ≡ length (leaves_of (trees_view l.nodes.items));
      shallow : nesting_of (trees_view (drop l.node-index l.node-items)) ≤ 128;
    }
