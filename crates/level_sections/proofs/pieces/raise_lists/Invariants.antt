use Rattle.std.proofs.Common.{◌-◌, ◌≤◌, ◌∷◌}
use Rattle.shredding.specs.Parts.{list_part}
use Rattle.levels.specs.Nested.{parts_of}
use Rattle.level_sections.specs.Pieces.{AreTold}
use Rattle.level_sections.specs.Walk.{walked}
use Rattle.level_sections.proofs.pieces.raise_lists.Given as goal

abbrev pub invariant-loop-place : goal.invariant-loop-place
invariant-loop-place g l = record {
  after : l.from ≤ l.place;
  before : l.place ≤ l.to;
  told : AreTold (λ n. walked l.level (list_part l.list.is_optional l.list.validity l.list.offsets ∷ parts_of l.rest) l.above l.from n) (l.place - l.from) l.upper;
}

abbrev pub decreases-loop-place : goal.decreases-loop-place
decreases-loop-place g l = l.to - l.place
