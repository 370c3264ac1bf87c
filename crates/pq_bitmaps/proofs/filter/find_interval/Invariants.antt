use Rattle.std.proofs.Common.{◌≡◌, length}
use Rattle.pq_bitmaps.specs.Filter.{IsFilter, left_in, steps_in}
use Rattle.pq_bitmaps.proofs.filter.find_interval.Given as goal

abbrev pub invariant-loop-filter : goal.invariant-loop-filter
invariant-loop-filter l = record {
  is : IsFilter l.filter;
  steps : steps_in l.filter ≡ steps_in l.fn.filter;
  left : left_in l.filter ≡ left_in l.fn.filter;
}

abbrev pub decreases-loop-filter : goal.decreases-loop-filter
decreases-loop-filter l = length l.filter.intervals.items
