use Rattle.std.proofs.Common.{◌≡◌, map, take}
use Rattle.pq_tree.specs.TreeViews.{tree_view}
use Rattle.rewrite_whole.proofs.encode.copy_trees.Given as goal

abbrev pub invariant-loop-tree : goal.invariant-loop-tree
invariant-loop-tree l = map tree_view l.copies.items ≡ map tree_view (take l.tree-index l.trees)
