use Rattle.read_walk.proofs.Mixing.{IsMixed}
use Rattle.read_walk.proofs.decode.mixed_bits.Given as goal

abbrev pub invariant-loop-i : goal.invariant-loop-i
invariant-loop-i l = IsMixed l.floor l.top l.levels l.i l.word l.count
