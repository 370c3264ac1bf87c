use Rattle.std.proofs.Common.{length}
use Rattle.read_leaves.proofs.leaf.+may_be_null.Given as goal

abbrev pub decreases-may_be_null : goal.decreases-may_be_null
decreases-may_be_null l = length l.parts.now
