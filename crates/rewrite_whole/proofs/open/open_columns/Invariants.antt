use Rattle.std.proofs.Common.{List, map, take}
use Rattle.std.specs.List.{AllZip}
use Rattle.pq_tree.specs.Tree.{Leaf}
use Rattle.pq_tree.specs.Views.{chunk_view}
use Rattle.rewrite_whole.specs.Opening.{IsChunkOf, OpensColumns}
use Rattle.rewrite_whole.proofs.open.open_columns.Given as goal

abbrev pub invariant-loop-chunk : goal.invariant-loop-chunk
invariant-loop-chunk l = (ls : List Leaf) → AllZip (IsChunkOf l.job.place) l.chunks ls → OpensColumns l.job.input.now l.job.place (map chunk_view (take l.chunk-index l.chunks)) (take l.chunk-index ls) (map (λ r. r.outcomes) l.readers.items) l.types.items
