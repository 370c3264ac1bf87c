use Rattle.std.proofs.Common.{take}
use Rattle.write_statistics.specs.Extremes.{AreExtremes}
use Rattle.write_statistics.proofs.numbers.extremes_of_all.Given as goal

abbrev pub invariant-loop-i : goal.invariant-loop-i
invariant-loop-i g l = AreExtremes g.T.OrderedNative.ordinal (take l.i l.values) l.extremes.least l.extremes.greatest
