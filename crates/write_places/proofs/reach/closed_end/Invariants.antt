use Rattle.std.proofs.Common.{◌-◌, ◌≤◌}
use Rattle.levels.specs.Nested.{parts_of}
use Rattle.write_places.specs.Reach.{AreClosed}
use Rattle.write_places.proofs.reach.closed_end.Given as goal

abbrev pub decreases-loop-end : goal.decreases-loop-end
decreases-loop-end g l = l.to - l.end

abbrev pub invariant-loop-end : goal.invariant-loop-end
invariant-loop-end g l = record {
  after : l.place ≤ l.end;
  within : l.end ≤ l.to;
  closed : AreClosed (parts_of l.parts) l.offsets l.place l.end;
}
