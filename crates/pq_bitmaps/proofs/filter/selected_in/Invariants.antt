use Rattle.std.proofs.Common.{◌≡◌, ◌+◌, drop}
use Rattle.pq_bitmaps.specs.Selected.{selected}
use Rattle.pq_bitmaps.proofs.filter.selected_in.Given as goal

abbrev pub invariant-intervals : goal.invariant-intervals
invariant-intervals l = l.sum + selected (drop l.i l.fn.intervals.items) ≡ l.fn.begun + selected l.fn.intervals.items
