use Rattle.std.proofs.Common.{◌≡◌, ℕ, List, ◌-◌, ◌≤◌, ◌++◌}
use Rattle.levels.specs.Nested.{parts_of}
use Rattle.pq_runs.specs.Writing.{Extends, Keeps}
use Rattle.level_sections.specs.Blocks.{flat_level, levels_from}
use Rattle.level_sections.specs.Walk.{Goes}
use Rattle.level_sections.proofs.block.push_blocks.Given as goal

abbrev pub invariant-loop-place : goal.invariant-loop-place
invariant-loop-place l = record {
  after : l.from ≤ l.place;
  before : l.place ≤ l.to;
  width : l.writer.width ≡ l.fn.writer.width;
  kept : Extends l.fn.out.items l.out.items;
  added : (start xs : List ℕ) → Keeps start l.fn.out.items l.fn.writer xs → Goes start l.out.items l.writer (levels_from (flat_level (parts_of l.parts) l.def) l.place (l.to - l.place)) (xs ++ levels_from (flat_level (parts_of l.parts) l.def) l.from (l.to - l.from));
}

abbrev pub decreases-loop-place : goal.decreases-loop-place
decreases-loop-place l = l.to - l.place
