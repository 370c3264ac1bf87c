use Rattle.std.proofs.Common.{length}
use Rattle.write_places.proofs.there.+masks_of.Given as goal

abbrev pub decreases-masks_of : goal.decreases-masks_of
decreases-masks_of l = length l.parts.now
