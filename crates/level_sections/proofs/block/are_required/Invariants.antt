use Rattle.std.proofs.Common.{◌≡◌, ℕ, length}
use Rattle.levels.specs.Nested.{parts_of}
use Rattle.level_sections.specs.Blocks.{flat_level}
use Rattle.level_sections.proofs.block.are_required.Given as goal

abbrev pub invariant-loop-part : goal.invariant-loop-part
invariant-loop-part l = (def i : ℕ) → flat_level (parts_of l.parts) def i ≡ flat_level (parts_of l.rest) def i

abbrev pub decreases-loop-part : goal.decreases-loop-part
decreases-loop-part l = length l.rest
