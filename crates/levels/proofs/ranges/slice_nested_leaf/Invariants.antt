use Rattle.std.proofs.Common.{◌≡◌, length}
use Rattle.levels.specs.Ranges.{deepest_or, leaf_range}
use Rattle.levels.specs.Nested.{parts_of}
use Rattle.levels.proofs.ranges.slice_nested_leaf.Given as goal

abbrev pub invariant-loop-part : goal.invariant-loop-part
invariant-loop-part l = deepest_or l.deepest (parts_of l.parts) ≡ leaf_range (parts_of l.nested)

abbrev pub decreases-loop-part : goal.decreases-loop-part
decreases-loop-part l = length l.parts
