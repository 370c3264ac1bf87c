use Rattle.columns_core.specs.Bits.{word_bits}
use Rattle.read_state.specs.Reach.{chosen}
use Rattle.read_walk.proofs.Mixing.{IsPicked}
use Rattle.read_walk.proofs.decode.picked_bits.Given as goal

abbrev pub invariant-loop-count : goal.invariant-loop-count
invariant-loop-count l = IsPicked (chosen (word_bits l.set 64) (word_bits l.word 64)) l.left l.picked l.count

abbrev pub decreases-loop-count : goal.decreases-loop-count
decreases-loop-count l = l.count
