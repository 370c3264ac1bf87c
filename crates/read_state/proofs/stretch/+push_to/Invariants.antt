use Rattle.std.proofs.Common.{length}
use Rattle.read_state.proofs.stretch.+push_to.Given as goal

abbrev pub decreases-push_to : goal.decreases-push_to
decreases-push_to g l = length l.parts.now
