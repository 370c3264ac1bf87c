use Rattle.std.proofs.Common.{◌≡◌, drop}
use Rattle.pq_tree.specs.TreeViews.{trees_view}
use Rattle.schema_fit.specs.Skeleton.{trees_bones}
use Rattle.schema_fit.specs.Walk.{has_bones}
use Rattle.schema_fit.proofs.place.+columns.Given as goal

abbrev pub invariant-hold_column-loop-node : goal.invariant-hold_column-loop-node
invariant-hold_column-loop-node l = has_bones (trees_bones (trees_view (drop l.node-index l.nodes))) ≡ has_bones (trees_bones (trees_view l.nodes))
