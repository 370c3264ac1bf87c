use Rattle.std.proofs.Common.{length}
use Rattle.read_state.proofs.parts.+top_of.Given as goal

abbrev pub decreases-top_of : goal.decreases-top_of
decreases-top_of l = length l.parts.now
