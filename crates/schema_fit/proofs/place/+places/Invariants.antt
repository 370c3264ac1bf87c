use Rattle.std.proofs.Common.{◌≡◌, ◌+◌, ◌*◌, ◌-◌, length}
use Rattle.pq_tree.specs.Tree.{nesting, nesting_of}
use Rattle.pq_tree.specs.TreeViews.{tree_view, trees_view}
use Rattle.schema_fit.specs.Walk.{next_at, beneath, rest_in}
use Rattle.schema_fit.proofs.place.+places.Given as goal

abbrev pub invariant-next_of_nodes-nodes : goal.invariant-next_of_nodes-nodes
invariant-next_of_nodes-nodes l =
    rest_in (trees_view l.nodes) (next_at l.path) (beneath l.path) ≡ rest_in (trees_view l.nodes) (next_at l.initial.path) (beneath l.initial.path)

abbrev pub decreases-next_of_nodes-nodes : goal.decreases-next_of_nodes-nodes
decreases-next_of_nodes-nodes l = length l.nodes - next_at l.path

abbrev pub decreases-next_of_nodes : goal.decreases-next_of_nodes
decreases-next_of_nodes l = 4 * nesting_of (trees_view l.nodes.now) + 3

abbrev pub decreases-next_beneath : goal.decreases-next_beneath
decreases-next_beneath l = 4 * nesting (tree_view l.node.now) + 2

abbrev pub decreases-next_of_node : goal.decreases-next_of_node
decreases-next_of_node l = 4 * nesting (tree_view l.node.now) + 1

abbrev pub decreases-next_inside : goal.decreases-next_inside
decreases-next_inside l = 4 * nesting (tree_view l.node.now)
