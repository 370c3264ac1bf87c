use Rattle.std.proofs.Common.{◌≡◌, ◌+◌, drop, map}
use Rattle.std.specs.List.{sum_by}
use Rattle.pq_files.specs.Room.{chunk_room}
use Rattle.footer_write.specs.FooterView.{chunk_view}
use Rattle.footer_write.proofs.room.spend_chunks.Given as goal

abbrev pub invariant-loop-chunk : goal.invariant-loop-chunk
invariant-loop-chunk l = l.left + sum_by chunk_room (map chunk_view (drop l.chunk-index l.chunks)) ≡ l.rest + sum_by chunk_room (map chunk_view l.chunks)
