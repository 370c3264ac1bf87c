use Rattle.std.proofs.Common.{map}
use Rattle.columns_core.proofs.Steps.{AreSteps}
use Rattle.columns_core.proofs.offsets.surely_rise.Given as goal

abbrev pub invariant-loop-i : goal.invariant-loop-i
invariant-loop-i g l = AreSteps l.rise l.i (map g.O.Offset.number l.places)
