use Rattle.read_state.proofs.SameRuns.{HaveSameBits}
use Rattle.read_state.proofs.same.same_bits.Given as goal

abbrev pub invariant-loop-i : goal.invariant-loop-i
invariant-loop-i l = HaveSameBits l.a l.b l.count l.i
