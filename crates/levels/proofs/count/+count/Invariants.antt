use Rattle.std.proofs.Common.{◌≤◌, length, ◌≡◌, ◌-◌, ◌+◌, ◌*◌, ◌^◌, min}
use Rattle.levels.specs.Nested.{parts_of}
use Rattle.levels.specs.Sizes.{total, slot_size}
use Rattle.levels.proofs.count.+count.Given as goal

abbrev pub decreases-count_stretch : goal.decreases-count_stretch
decreases-count_stretch l = 2 * length l.parts.now

abbrev pub decreases-count : goal.decreases-count
decreases-count l = 2 * length l.parts.now + 1

abbrev pub invariant-count-loop-place : goal.invariant-count-loop-place
invariant-count-loop-place l = record {
  after : l.from ≤ l.place;
  before : l.place ≤ l.to;
  fits : l.sum ≤ 2 ^ 64 - 1;
  sums : min (l.sum + total (slot_size (parts_of l.parts)) l.place (l.to - l.place)) (2 ^ 64 - 1) ≡ min (total (slot_size (parts_of l.parts)) l.from (l.to - l.from)) (2 ^ 64 - 1);
}

abbrev pub decreases-count-loop-place : goal.decreases-count-loop-place
decreases-count-loop-place l = l.to - l.place
