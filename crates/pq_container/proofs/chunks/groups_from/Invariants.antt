use Rattle.std.proofs.Common.{[], take, map}
use Rattle.pq_tree.specs.Described.{GroupsAreDescribed}
use Rattle.pq_thrift.specs.Value.{values_view}
use Rattle.pq_metadata.specs.Footer.{SpellsGroup}
use Rattle.pq_metadata.specs.Ids.{Each}
use Rattle.pq_tree.specs.Views.{group_view}
use Rattle.pq_container.proofs.chunks.groups_from.Given as goal

abbrev pub invariant-loop-value : goal.invariant-loop-value
invariant-loop-value l = record {
  found : Each SpellsGroup (values_view (take l.value-index l.values)) (map group_view l.groups.items);
  described : GroupsAreDescribed [] l.groups.items;
}
