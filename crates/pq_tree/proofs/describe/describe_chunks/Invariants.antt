use Rattle.std.proofs.Common.{◌≡◌, ◌<◌, ℕ, Some, map, slice_get}
use Rattle.pq_tree.specs.Described.{column_view, descriptor_view}
use Rattle.pq_tree.specs.Views.{chunk_view}
use Rattle.pq_tree.proofs.describe.describe_chunks.Given as goal

abbrev pub invariant-loop-place : goal.invariant-loop-place
invariant-loop-place l = record {
  same : map chunk_view l.chunk-items ≡ map chunk_view l.initial.chunk-items;
  described : (k : ℕ) → k < l.place → slice_get (map descriptor_view l.chunk-items) k ≡ Some (slice_get (map column_view l.columns) k);
}
