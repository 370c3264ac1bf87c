use Rattle.std.proofs.Common.{◌↔◌, length}
use Rattle.shredding.specs.Parts.{FitTogether}
use Rattle.levels.specs.Nested.{parts_of}
use Rattle.levels.proofs.well_formed.is_well_formed.Given as goal

abbrev pub invariant-loop-part : goal.invariant-loop-part
invariant-loop-part l = FitTogether (parts_of l.nested) ↔ FitTogether (parts_of l.parts)

abbrev pub decreases-loop-part : goal.decreases-loop-part
decreases-loop-part l = length l.parts
