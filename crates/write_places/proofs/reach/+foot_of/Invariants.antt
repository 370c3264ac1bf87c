use Rattle.std.proofs.Common.{length}
use Rattle.write_places.proofs.reach.+foot_of.Given as goal

abbrev pub decreases-foot_of : goal.decreases-foot_of
decreases-foot_of l = length l.parts.now
