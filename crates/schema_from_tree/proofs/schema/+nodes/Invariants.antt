use Rattle.std.proofs.Common.{◌≡◌, ◌++◌, map, drop}
use Rattle.columns_core.specs.View.{field_view}
use Rattle.pq_tree.specs.TreeViews.{trees_view}
use Rattle.schema_from_tree.specs.FromTree.{arrow_fields}
use Rattle.schema_from_tree.proofs.schema.+nodes.Given as goal

abbrev pub invariant-fields_of_nodes-loop-node : goal.invariant-fields_of_nodes-loop-node
invariant-fields_of_nodes-loop-node l =
    map field_view l.fields.items ++ arrow_fields (trees_view (drop l.node-index l.nodes)) ≡ arrow_fields (trees_view l.nodes)
