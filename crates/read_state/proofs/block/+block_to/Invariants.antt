use Rattle.std.proofs.Common.{length}
use Rattle.read_state.proofs.block.+block_to.Given as goal

abbrev pub decreases-block_to : goal.decreases-block_to
decreases-block_to g l = length l.parts.now
