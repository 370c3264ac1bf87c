use Rattle.std.proofs.Common.{take, map}
use Rattle.pq_thrift.specs.Value.{values_view}
use Rattle.pq_metadata.specs.Footer.{SpellsKey}
use Rattle.pq_metadata.specs.Ids.{Each}
use Rattle.pq_tree.specs.Views.{key_view}
use Rattle.pq_container.proofs.keys.each_key_from.Given as goal

abbrev pub invariant-loop-value : goal.invariant-loop-value
invariant-loop-value l = Each SpellsKey (values_view (take l.value-index l.values)) (map key_view l.keys.items)
