use Rattle.read_state.proofs.Validities.{IsWord}
use Rattle.read_state.proofs.block.validity_word.Given as goal

abbrev pub invariant-loop-i : goal.invariant-loop-i
invariant-loop-i l = IsWord l.depth l.def l.reps l.defs l.hidden l.i l.word l.count
