use Rattle.std.proofs.Common.{length}
use Rattle.levels.proofs.cursors.+descend.Given as goal

abbrev pub decreases-descend : goal.decreases-descend
decreases-descend l = length l.cursor.parts.now
