use Rattle.std.proofs.Common.{◌≡◌, ◌++◌, map}
use Rattle.pq_tree.specs.Tree.{leaves_of}
use Rattle.pq_tree.specs.TreeViews.{trees_view}
use Rattle.nested_paths.specs.Leaves.{node_of, leaf_node}
use Rattle.nested_paths.proofs.tree_leaves.+leaves.Given as goal

abbrev pub invariant-push_all_leaves-loop-node : goal.invariant-push_all_leaves-loop-node
invariant-push_all_leaves-loop-node l =
    map leaf_node l.found.items ++ map node_of (leaves_of (trees_view l.node-iterator.rest.items)) ≡ map leaf_node l.fn.found.items ++ map node_of (leaves_of (trees_view l.fn.nodes.items))
