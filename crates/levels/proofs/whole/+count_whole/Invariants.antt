use Rattle.std.proofs.Common.{length}
use Rattle.levels.proofs.whole.+count_whole.Given as goal

abbrev pub decreases-count_whole : goal.decreases-count_whole
decreases-count_whole l = length l.parts.now
