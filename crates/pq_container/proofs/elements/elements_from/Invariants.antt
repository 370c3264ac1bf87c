use Rattle.std.proofs.Common.{take, map}
use Rattle.pq_thrift.specs.Value.{values_view}
use Rattle.pq_metadata.specs.Elements.{SpellsNode}
use Rattle.pq_metadata.specs.Ids.{Each}
use Rattle.pq_tree.specs.Views.{element_view}
use Rattle.pq_container.proofs.elements.elements_from.Given as goal

abbrev pub invariant-loop-value : goal.invariant-loop-value
invariant-loop-value l = Each SpellsNode (values_view (take l.value-index l.values)) (map element_view l.elements.items)
