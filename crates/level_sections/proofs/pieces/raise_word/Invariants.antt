use Rattle.std.proofs.Common.{◌+◌, ◌-◌, ◌≤◌, ◌∷◌}
use Rattle.shredding.specs.Parts.{list_part}
use Rattle.levels.specs.Nested.{parts_of}
use Rattle.level_sections.specs.Pieces.{AreTold}
use Rattle.level_sections.specs.Walk.{walked}
use Rattle.level_sections.proofs.pieces.raise_word.Given as goal

abbrev pub invariant-loop-i : goal.invariant-loop-i
invariant-loop-i g l = record {
  before : l.i ≤ l.count;
  told : AreTold (λ n. walked l.level (list_part l.list.is_optional l.list.validity l.list.offsets ∷ parts_of l.rest) l.above l.from n) (l.place + l.i - l.from) l.upper;
}

abbrev pub decreases-loop-i : goal.decreases-loop-i
decreases-loop-i g l = l.count - l.i
