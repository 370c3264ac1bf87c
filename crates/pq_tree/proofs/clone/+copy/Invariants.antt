use Rattle.std.proofs.Common.{◌≡◌, map, take}
use Rattle.pq_tree.specs.TreeViews.{tree_view}
use Rattle.pq_tree.proofs.clone.+copy.Given as goal

abbrev pub invariant-copy_trees-loop-tree : goal.invariant-copy_trees-loop-tree
invariant-copy_trees-loop-tree l = map tree_view l.copies.items ≡ map tree_view (take l.tree-index l.tree-items)
