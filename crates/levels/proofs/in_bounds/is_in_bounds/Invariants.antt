use Rattle.std.proofs.Common.{◌↔◌, length}
use Rattle.levels.specs.InBounds.{AreWithin}
use Rattle.levels.specs.Nested.{parts_of}
use Rattle.levels.proofs.in_bounds.is_in_bounds.Given as goal

abbrev pub invariant-loop-part : goal.invariant-loop-part
invariant-loop-part l = AreWithin (parts_of l.nested) ↔ AreWithin (parts_of l.parts)

abbrev pub decreases-loop-part : goal.decreases-loop-part
decreases-loop-part l = length l.parts
