use Rattle.std.proofs.Common.{◌≡◌, ℕ, List, All, ◌-◌, ◌^◌, ◌<◌, ◌≤◌, ◌++◌}
use Rattle.levels.specs.Nested.{parts_of}
use Rattle.pq_runs.specs.Writing.{Extends, Keeps}
use Rattle.level_sections.specs.Definitions.{list_definitions, listed_from, pending_levels}
use Rattle.level_sections.specs.Walk.{Goes}
use Rattle.level_sections.proofs.items.push_items.Given as goal

abbrev pub invariant-loop-place : goal.invariant-loop-place
invariant-loop-place g l = record {
  few : l.pending.count ≤ 64;
  after : l.from ≤ l.place;
  before : l.place ≤ l.to;
  width : l.writer.width ≡ l.fn.writer.width;
  kept : Extends l.fn.out.items l.out.items;
  waits : All (λ v. v < 2 ^ l.fn.writer.width) (pending_levels l.def l.pending);
  added : (start xs : List ℕ) → Keeps start l.fn.out.items l.fn.writer xs → Goes start l.out.items l.writer (pending_levels l.def l.pending ++ listed_from (list_definitions l.list.is_optional l.list.validity l.list.offsets (parts_of l.rest) l.def) l.place (l.to - l.place)) (xs ++ listed_from (list_definitions l.list.is_optional l.list.validity l.list.offsets (parts_of l.rest) l.def) l.from (l.to - l.from));
}

abbrev pub decreases-loop-place : goal.decreases-loop-place
decreases-loop-place g l = l.to - l.place
