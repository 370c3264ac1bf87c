use Rattle.std.proofs.Common.{◌≡◌, ◌≤◌, map, All, None}
use Rattle.pq_metadata.specs.Footer.{SpellsChunk}
use Rattle.pq_tree.specs.Views.{chunk_view}
use Rattle.pq_container.specs.Ahead.{FrontsValues}
use Rattle.pq_container.proofs.footer_bytes.chunks.Given as goal

abbrev pub invariant-chunks : goal.invariant-chunks
invariant-chunks l = record {
  within : l.counter ≤ l.count;
  found : FrontsValues SpellsChunk 12 4 l.counter (map chunk_view l.chunks.items) l.bytes l.rest;
  bare : All (λ c. c.descriptor ≡ None) l.chunks.items;
}
