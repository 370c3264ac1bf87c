use Rattle.std.proofs.Common.{◌++◌, vec_len, vec_capacity}
use Rattle.columns_core.specs.Bits.{word_bits}
use Rattle.read_state.specs.Kinds.{starts_of}
use Rattle.read_state.specs.Reach.{places}
use Rattle.read_state.proofs.Shifting.{IsShifting}
use Rattle.read_state.proofs.lists.push_starts.Given as goal

abbrev pub invariant-loop-left : goal.invariant-loop-left
invariant-loop-left l = IsShifting l.end (starts_of l.fn.lengths.items ++ places l.first (word_bits l.pushed 64) (word_bits l.grown 64)) (starts_of l.places.items) l.left l.above (vec_len l.places) (vec_capacity l.places)

abbrev pub decreases-loop-left : goal.decreases-loop-left
decreases-loop-left l = l.left
