use Rattle.std.proofs.Common.{◌≡◌, ◌≤◌, ◌+◌, ◌-◌}
use Rattle.levels.specs.Sizes.{total, empty_size}
use Rattle.levels.proofs.whole.count_some.Given as goal

abbrev pub invariant-loop-i : goal.invariant-loop-i
invariant-loop-i g l = record {
  few : l.place + l.empty ≤ l.i;
  sums : l.empty + total (empty_size l.offsets) l.i (l.end - l.i) ≡ total (empty_size l.offsets) l.place (l.end - l.place);
}
