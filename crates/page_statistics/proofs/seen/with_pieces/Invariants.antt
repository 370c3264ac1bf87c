use Rattle.std.proofs.Common.{◌≤◌, ◌-◌, ◌++◌, List, ℕ, Some}
use Rattle.write_places.specs.Places.{range}
use Rattle.page_statistics.specs.Extremes.{AreExtremes, AreWithin}
use Rattle.page_statistics.proofs.seen.with_pieces.Given as goal

abbrev pub decreases-loop-at : goal.decreases-loop-at
decreases-loop-at g l = l.to - l.at

abbrev pub invariant-loop-at : goal.invariant-loop-at
invariant-loop-at g l = record {
  within : AreWithin (g.L.OrderedLeaf.count l.leaf) (Some l.now);
  from : l.from ≤ l.at;
  before : l.at ≤ l.to;
  are : (places : List ℕ) → AreExtremes (g.L.OrderedLeaf.value l.leaf) places (Some l.fn.extremes) → AreExtremes (g.L.OrderedLeaf.value l.leaf) (places ++ range l.from (l.at - l.from)) (Some l.now);
}
