use Rattle.std.proofs.Common.{length}
use Rattle.pq_deltas.proofs.delta_block.+push_miniblocks.Given as goal

abbrev pub decreases-push_miniblocks : goal.decreases-push_miniblocks
decreases-push_miniblocks l = length l.widths.now
