use Rattle.std.proofs.Common.{◌≤◌, ◌-◌}
use Rattle.levels.specs.Stretch.{HaveItems}
use Rattle.levels.proofs.items.first_empty.Given as goal

abbrev pub invariant-loop-end : goal.invariant-loop-end
invariant-loop-end g l = record {
  after : l.place ≤ l.end;
  within : l.end ≤ l.to;
  full : HaveItems l.offsets l.place l.end;
}

abbrev pub decreases-loop-end : goal.decreases-loop-end
decreases-loop-end g l = l.to - l.end
