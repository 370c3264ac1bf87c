use Rattle.std.proofs.Common.{◌≡◌, ◌-◌, ◌≤◌, ◌++◌}
use Rattle.levels.specs.Sizes.{list_size}
use Rattle.level_sections.specs.Lists.{reps_from}
use Rattle.level_sections.proofs.tell.tell_lists.Given as goal

abbrev pub invariant-loop-place : goal.invariant-loop-place
invariant-loop-place g l = record {
  after : l.from ≤ l.place;
  before : l.place ≤ l.to;
  first : l.rep ≤ l.above.depth;
  told : l.told ++ reps_from (list_size l.list.is_optional l.list.validity l.list.offsets) l.rep l.above.depth l.place (l.to - l.place) ≡ l.fn.told ++ reps_from (list_size l.list.is_optional l.list.validity l.list.offsets) l.above.rep l.above.depth l.from (l.to - l.from);
}

abbrev pub decreases-loop-place : goal.decreases-loop-place
decreases-loop-place g l = l.to - l.place
