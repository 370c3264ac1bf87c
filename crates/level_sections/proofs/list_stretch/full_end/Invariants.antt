use Rattle.std.proofs.Common.{◌-◌, ◌<◌, ◌≤◌}
use Rattle.levels.specs.Stretch.{AreFull}
use Rattle.level_sections.proofs.list_stretch.full_end.Given as goal

abbrev pub invariant-loop-end : goal.invariant-loop-end
invariant-loop-end g l = record {
  after : l.place < l.end;
  before : l.end ≤ l.to;
  full : AreFull l.list.is_optional l.list.validity l.list.offsets l.place l.end;
}

abbrev pub decreases-loop-end : goal.decreases-loop-end
decreases-loop-end g l = l.to - l.end
