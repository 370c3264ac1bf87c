use Rattle.std.proofs.Common.{◌≡◌, take, map, All, None}
use Rattle.pq_thrift.specs.Value.{values_view}
use Rattle.pq_metadata.specs.Footer.{SpellsChunk}
use Rattle.pq_metadata.specs.Ids.{Each}
use Rattle.pq_tree.specs.Views.{chunk_view}
use Rattle.pq_container.proofs.chunks.chunks_from.Given as goal

abbrev pub invariant-loop-value : goal.invariant-loop-value
invariant-loop-value l = record {
  found : Each SpellsChunk (values_view (take l.value-index l.values)) (map chunk_view l.chunks.items);
  bare : All (λ c. c.descriptor ≡ None) l.chunks.items;
}
