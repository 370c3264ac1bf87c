use Rattle.std.proofs.Common.{length}
use Rattle.read_state.proofs.parts.+inside_of.Given as goal

abbrev pub decreases-inside_of : goal.decreases-inside_of
decreases-inside_of l = length l.parts.now
