use Rattle.std.proofs.Common.{length}
use Rattle.read_state.proofs.parts.+leaf_len_of.Given as goal

abbrev pub decreases-leaf_len_of : goal.decreases-leaf_len_of
decreases-leaf_len_of l = length l.parts.now
