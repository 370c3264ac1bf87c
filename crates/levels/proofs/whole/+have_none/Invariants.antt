use Rattle.std.proofs.Common.{length}
use Rattle.levels.proofs.whole.+have_none.Given as goal

abbrev pub decreases-have_none : goal.decreases-have_none
decreases-have_none l = length l.parts.now
