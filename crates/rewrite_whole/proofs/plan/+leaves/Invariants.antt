use Rattle.std.proofs.Common.{◌≡◌, ◌≤◌, ◌++◌, drop}
use Rattle.pq_tree.specs.Tree.{leaves_of, nesting_of}
use Rattle.pq_tree.specs.TreeViews.{trees_view}
use Rattle.columns_core.specs.View.{type_view}
use Rattle.rewrite_whole.specs.Plans.{names_of}
use Rattle.rewrite_whole.proofs.plan.+leaves.Given as goal

abbrev pub invariant-push_all_encodings-loop-node : goal.invariant-push_all_encodings-loop-node
invariant-push_all_encodings-loop-node l = record {
  all : l.encodings.items ++ names_of l.wants_deltas (type_view l.data_type) (leaves_of (trees_view (drop l.node-index l.node-items))) ≡ l.fn.encodings.items ++ names_of l.wants_deltas (type_view l.data_type) (leaves_of (trees_view l.nodes.items));
  shallow : nesting_of (trees_view (drop l.node-index l.node-items)) ≤ 128;
}
