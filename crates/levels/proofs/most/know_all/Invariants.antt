use Rattle.std.proofs.Common.{length}
use Rattle.levels.specs.Nested.{parts_of}
use Rattle.levels.specs.Sizes.{AreRising}
use Rattle.levels.proofs.most.know_all.Given as goal

abbrev pub invariant-loop-part : goal.invariant-loop-part
invariant-loop-part l = AreRising (parts_of l.parts) → AreRising (parts_of l.nested)

abbrev pub decreases-loop-part : goal.decreases-loop-part
decreases-loop-part l = length l.parts
