use Rattle.std.proofs.Common.{◌≡◌, ◌≤◌, ◌+◌, ◌-◌, ◌^◌, min}
use Rattle.levels.specs.Sizes.{total, list_size}
use Rattle.levels.proofs.count.count_lists.Given as goal

abbrev pub invariant-loop-place : goal.invariant-loop-place
invariant-loop-place g l = record {
  after : l.from ≤ l.place;
  before : l.place ≤ l.to;
  fits : l.sum ≤ 2 ^ 64 - 1;
  sums : min (l.sum + total (list_size l.list.is_optional l.list.validity l.list.offsets) l.place (l.to - l.place)) (2 ^ 64 - 1) ≡ min (total (list_size l.list.is_optional l.list.validity l.list.offsets) l.from (l.to - l.from)) (2 ^ 64 - 1);
}

abbrev pub decreases-loop-place : goal.decreases-loop-place
decreases-loop-place g l = l.to - l.place
