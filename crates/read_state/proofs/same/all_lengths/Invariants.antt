use Rattle.std.proofs.Common.{IsTrue, drop}
use Rattle.read_state.specs.Kinds.{starts_of}
use Rattle.read_state.proofs.SameRuns.{AreAlike}
use Rattle.read_state.proofs.same.all_lengths.Given as goal

abbrev pub invariant-loop-i : goal.invariant-loop-i
invariant-loop-i l = IsTrue l.same → AreAlike (starts_of l.a) (starts_of l.b) (starts_of (drop l.i l.a)) (starts_of (drop l.i l.b))
