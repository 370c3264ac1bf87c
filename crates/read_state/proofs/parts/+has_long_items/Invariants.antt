use Rattle.std.proofs.Common.{length}
use Rattle.read_state.proofs.parts.+has_long_items.Given as goal

abbrev pub decreases-has_long_items : goal.decreases-has_long_items
decreases-has_long_items l = length l.parts.now
