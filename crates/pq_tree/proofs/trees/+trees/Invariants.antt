use Rattle.std.proofs.Common.{◌≡◌, ◌+◌, ◌-◌, ◌*◌, map}
use Rattle.pq_tree.specs.TreeReading.{tree_at, trees_at, trees_with}
use Rattle.pq_tree.specs.Views.{element_view}
use Rattle.pq_tree.proofs.TreeLoops.{under, before}
use Rattle.pq_tree.proofs.trees.+trees.Given as goal

abbrev pub decreases-take_tree : goal.decreases-take_tree
decreases-take_tree l = 3 * l.depth

abbrev pub decreases-take_trees : goal.decreases-take_trees
decreases-take_trees l = 3 * l.depth + 1

abbrev pub decreases-take_group : goal.decreases-take_group
decreases-take_group l = 3 * l.depth + 2

abbrev pub invariant-take_trees-trees : goal.invariant-take_trees-trees
invariant-take_trees-trees l = under (before l.trees.items) (trees_with (tree_at l.depth) (l.count - l.counter) (map element_view l.rest)) ≡ trees_at l.depth l.count (map element_view l.elements)
