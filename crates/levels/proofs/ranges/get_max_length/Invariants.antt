use Rattle.std.proofs.Common.{◌≡◌, ◌≤◌, ◌+◌, ◌-◌, ◌^◌, min, length}
use Rattle.levels.specs.Ranges.{span_sum}
use Rattle.levels.specs.Nested.{parts_of}
use Rattle.levels.proofs.ranges.get_max_length.Given as goal

abbrev pub invariant-loop-part : goal.invariant-loop-part
invariant-loop-part l = record {
  fits : l.sum ≤ 2 ^ 64 - 1;
  sums : min (l.sum + span_sum (parts_of l.parts)) (2 ^ 64 - 1) ≡ min (span_sum (parts_of l.nested)) (2 ^ 64 - 1);
}

abbrev pub decreases-loop-part : goal.decreases-loop-part
decreases-loop-part l = length l.parts
