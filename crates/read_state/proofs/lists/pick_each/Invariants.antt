use Rattle.columns_core.specs.Bits.{word_bits}
use Rattle.read_state.specs.Reach.{chosen}
use Rattle.read_state.proofs.Picking.{IsPicking}
use Rattle.read_state.proofs.lists.pick_each.Given as goal

abbrev pub invariant-loop-left : goal.invariant-loop-left
invariant-loop-left l = IsPicking (chosen (word_bits l.pushed 64) (word_bits l.there 64)) l.pushed l.there l.left l.word

abbrev pub decreases-loop-left : goal.decreases-loop-left
decreases-loop-left l = l.left
