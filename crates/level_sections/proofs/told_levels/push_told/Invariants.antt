use Rattle.std.proofs.Common.{◌≡◌, ℕ, List, ◌-◌, ◌≤◌, ◌++◌, drop, length}
use Rattle.pq_runs.specs.Writing.{Extends, Keeps}
use Rattle.level_sections.specs.Walk.{Goes}
use Rattle.level_sections.proofs.told_levels.push_told.Given as goal

abbrev pub invariant-loop-at : goal.invariant-loop-at
invariant-loop-at l = record {
  before : l.at ≤ length l.bytes;
  width : l.writer.width ≡ l.fn.writer.width;
  kept : Extends l.fn.out.items l.out.items;
  added : (start xs : List ℕ) → Keeps start l.fn.out.items l.fn.writer xs → Goes start l.out.items l.writer (drop l.at l.bytes) (xs ++ l.bytes);
}

abbrev pub decreases-loop-at : goal.decreases-loop-at
decreases-loop-at l = length l.bytes - l.at
