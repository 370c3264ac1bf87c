use Rattle.std.proofs.Common.{◌≡◌, take}
use Rattle.pq_bitmaps.proofs.filter.copy_intervals.Given as goal

abbrev pub invariant-intervals : goal.invariant-intervals
invariant-intervals l = l.copy.items ≡ take l.i l.fn.intervals.items
