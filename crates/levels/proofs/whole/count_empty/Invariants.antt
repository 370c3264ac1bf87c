use Rattle.std.proofs.Common.{◌≡◌, ◌≤◌, ◌+◌, ◌-◌}
use Rattle.levels.specs.Sizes.{total, empty_size}
use Rattle.levels.proofs.whole.count_empty.Given as goal

abbrev pub invariant-loop-place : goal.invariant-loop-place
invariant-loop-place g l = record {
  after : l.from ≤ l.place;
  before : l.place ≤ l.to;
  few : l.from + l.empty ≤ l.place;
  sums : l.empty + total (empty_size l.offsets) l.place (l.to - l.place) ≡ total (empty_size l.offsets) l.from (l.to - l.from);
}

abbrev pub decreases-loop-place : goal.decreases-loop-place
decreases-loop-place g l = l.to - l.place
