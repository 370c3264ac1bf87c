use Rattle.std.proofs.Common.{◌≡◌, ◌-◌, ◌≤◌, ◌++◌}
use Rattle.levels.specs.Nested.{parts_of}
use Rattle.level_sections.specs.Blocks.{flat_level, levels_from}
use Rattle.level_sections.proofs.tell.tell_levels.Given as goal

abbrev pub invariant-loop-place : goal.invariant-loop-place
invariant-loop-place l = record {
  after : l.from ≤ l.place;
  before : l.place ≤ l.to;
  told : l.told ++ levels_from (flat_level (parts_of l.parts) l.def) l.place (l.to - l.place) ≡ l.fn.told ++ levels_from (flat_level (parts_of l.parts) l.def) l.from (l.to - l.from);
}

abbrev pub decreases-loop-place : goal.decreases-loop-place
decreases-loop-place l = l.to - l.place
