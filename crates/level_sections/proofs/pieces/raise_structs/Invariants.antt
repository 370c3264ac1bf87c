use Rattle.std.proofs.Common.{◌-◌, ◌≤◌, ◌∷◌}
use Rattle.shredding.specs.Parts.{struct_part}
use Rattle.levels.specs.Nested.{parts_of}
use Rattle.level_sections.specs.Pieces.{AreTold}
use Rattle.level_sections.specs.Walk.{walked}
use Rattle.level_sections.proofs.pieces.raise_structs.Given as goal

abbrev pub invariant-loop-place : goal.invariant-loop-place
invariant-loop-place l = record {
  after : l.from ≤ l.place;
  before : l.place ≤ l.to;
  told : AreTold (λ n. walked l.level (struct_part l.is_optional l.mask l.slots ∷ parts_of l.rest) l.above l.from n) (l.place - l.from) l.upper;
}

abbrev pub decreases-loop-place : goal.decreases-loop-place
decreases-loop-place l = l.to - l.place
