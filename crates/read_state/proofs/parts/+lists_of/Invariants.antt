use Rattle.std.proofs.Common.{length}
use Rattle.read_state.proofs.parts.+lists_of.Given as goal

abbrev pub decreases-lists_of : goal.decreases-lists_of
decreases-lists_of l = length l.parts.now
