use Rattle.std.proofs.Common.{◌≡◌, length}
use Rattle.levels.specs.Ranges.{leaf_count_or}
use Rattle.levels.specs.Nested.{parts_of}
use Rattle.levels.proofs.ranges.leaf_len.Given as goal

abbrev pub invariant-loop-part : goal.invariant-loop-part
invariant-loop-part l = leaf_count_or l.last (parts_of l.parts) ≡ leaf_count_or 0 (parts_of l.nested)

abbrev pub decreases-loop-part : goal.decreases-loop-part
decreases-loop-part l = length l.parts
