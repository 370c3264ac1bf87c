use Rattle.std.proofs.Common.{take}
use Rattle.write_statistics.specs.Extremes.{AreExtremes, kept}
use Rattle.write_statistics.proofs.numbers.extremes_of_kept.Given as goal

abbrev pub invariant-loop-i : goal.invariant-loop-i
invariant-loop-i g l = AreExtremes g.T.OrderedNative.ordinal (kept (take l.i l.mask) (take l.i l.values)) l.extremes.least l.extremes.greatest
