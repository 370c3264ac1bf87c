use Rattle.std.proofs.Common.{◌≡◌, ℕ, List, ◌-◌, ◌≤◌, ◌++◌}
use Rattle.levels.specs.Sizes.{list_size}
use Rattle.pq_runs.specs.Writing.{Extends, Keeps}
use Rattle.level_sections.specs.Lists.{IsOpen, pending, reps_from}
use Rattle.level_sections.specs.Walk.{Goes}
use Rattle.level_sections.proofs.lists.push_lists.Given as goal

abbrev pub invariant-loop-place : goal.invariant-loop-place
invariant-loop-place g l = record {
  after : l.from ≤ l.place;
  before : l.place ≤ l.to;
  is_open : IsOpen l.starts;
  width : l.writer.width ≡ l.fn.writer.width;
  kept : Extends l.fn.out.items l.out.items;
  added : (start xs : List ℕ) → Keeps start l.fn.out.items l.fn.writer xs → Goes start l.out.items l.writer (pending l.depth l.starts ++ reps_from (list_size l.list.is_optional l.list.validity l.list.offsets) l.depth l.depth l.place (l.to - l.place)) (xs ++ reps_from (list_size l.list.is_optional l.list.validity l.list.offsets) l.depth l.depth l.from (l.to - l.from));
}

abbrev pub decreases-loop-place : goal.decreases-loop-place
decreases-loop-place g l = l.to - l.place
