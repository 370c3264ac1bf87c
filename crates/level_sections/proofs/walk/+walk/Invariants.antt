use Rattle.std.proofs.Common.{◌≡◌, ℕ, ◌+◌, ◌-◌, ◌*◌, ◌≤◌, ◌++◌, List, length}
use Rattle.levels.specs.Nested.{parts_of}
use Rattle.pq_runs.specs.Writing.{Extends}
use Rattle.pq_runs.specs.Writing.{Keeps}
use Rattle.level_sections.specs.Walk.{walked, Goes}
use Rattle.level_sections.proofs.walk.+walk.Given as goal

abbrev pub decreases-step : goal.decreases-step
decreases-step l = 6 * length l.parts.now

abbrev pub decreases-walk_stretches : goal.decreases-walk_stretches
decreases-walk_stretches l = 6 * length l.parts.now + 1

abbrev pub decreases-advance : goal.decreases-advance
decreases-advance l = 6 * length l.parts.now + 2

abbrev pub decreases-walk_lists_of_items : goal.decreases-walk_lists_of_items
decreases-walk_lists_of_items l = 6 * length l.parts.now + 3

abbrev pub decreases-walk_block : goal.decreases-walk_block
decreases-walk_block l = 6 * length l.parts.now + 2

abbrev pub decreases-walk_blocks : goal.decreases-walk_blocks
decreases-walk_blocks l = 6 * length l.parts.now + 3

abbrev pub decreases-walk_others : goal.decreases-walk_others
decreases-walk_others l = 6 * length l.parts.now + 4

abbrev pub decreases-walk : goal.decreases-walk
decreases-walk l = 6 * length l.parts.now + 5

abbrev pub invariant-walk_stretches-loop-place : goal.invariant-walk_stretches-loop-place
invariant-walk_stretches-loop-place l = record {
  after : l.from ≤ l.place;
  before : l.place ≤ l.to;
  first : l.here.rep ≤ l.here.depth;
  def : l.here.def ≡ l.fn.above.def;
  depth : l.here.depth ≡ l.fn.above.depth;
  width : l.writer.width ≡ l.fn.writer.width;
  kept : Extends l.fn.out.items l.out.items;
  added : (start xs : List ℕ) → Keeps start l.fn.out.items l.fn.writer xs → Goes start l.out.items l.writer (walked l.level (parts_of l.parts) l.here l.place (l.to - l.place)) (xs ++ walked l.level (parts_of l.parts) l.fn.above l.from (l.to - l.from));
}

abbrev pub decreases-walk_stretches-loop-place : goal.decreases-walk_stretches-loop-place
decreases-walk_stretches-loop-place l = l.to - l.place

abbrev pub invariant-walk_lists_of_items-loop-place : goal.invariant-walk_lists_of_items-loop-place
invariant-walk_lists_of_items-loop-place l = record {
  after : l.from ≤ l.place;
  before : l.place ≤ l.to;
  width : l.writer.width ≡ l.fn.writer.width;
  kept : Extends l.fn.out.items l.out.items;
  added : (start xs : List ℕ) → Keeps start l.fn.out.items l.fn.writer xs → Goes start l.out.items l.writer (walked l.level (parts_of l.parts) l.above l.place (l.to - l.place)) (xs ++ walked l.level (parts_of l.parts) l.above l.from (l.to - l.from));
}

abbrev pub decreases-walk_lists_of_items-loop-place : goal.decreases-walk_lists_of_items-loop-place
decreases-walk_lists_of_items-loop-place l = l.to - l.place

abbrev pub invariant-walk_blocks-loop-place : goal.invariant-walk_blocks-loop-place
invariant-walk_blocks-loop-place l = record {
  after : l.from ≤ l.place;
  before : l.place ≤ l.to;
  first : l.front.rep ≤ l.front.depth;
  def : l.front.def ≡ l.fn.above.def;
  depth : l.front.depth ≡ l.fn.above.depth;
  width : l.writer.width ≡ l.fn.writer.width;
  kept : Extends l.fn.out.items l.out.items;
  added : (start xs : List ℕ) → Keeps start l.fn.out.items l.fn.writer xs → Goes start l.out.items l.writer (walked l.level (parts_of l.parts) l.front l.place (l.to - l.place)) (xs ++ walked l.level (parts_of l.parts) l.fn.above l.from (l.to - l.from));
}

abbrev pub decreases-walk_blocks-loop-place : goal.decreases-walk_blocks-loop-place
decreases-walk_blocks-loop-place l = l.to - l.place
