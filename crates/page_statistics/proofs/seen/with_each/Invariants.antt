use Rattle.std.proofs.Common.{◌≤◌, ◌-◌, ◌++◌, List, ℕ, Some}
use Rattle.write_places.specs.Places.{range}
use Rattle.page_statistics.specs.Extremes.{AreExtremes, AreWithin}
use Rattle.page_statistics.proofs.seen.with_each.Given as goal

abbrev pub invariant-loop-place : goal.invariant-loop-place
invariant-loop-place g l = record {
  within : AreWithin (g.L.OrderedLeaf.count l.leaf) (Some l.now);
  from : l.from ≤ l.place;
  are : (places : List ℕ) → AreExtremes (g.L.OrderedLeaf.value l.leaf) places (Some l.fn.extremes) → AreExtremes (g.L.OrderedLeaf.value l.leaf) (places ++ range l.from (l.place - l.from)) (Some l.now);
}
