use Rattle.std.proofs.Common.{◌≤◌, ◌-◌}
use Rattle.nested_paths.proofs.Sames.{AreSame}
use Rattle.nested_paths.proofs.merge.same_end.Given as goal

abbrev pub invariant-loop-place : goal.invariant-loop-place
invariant-loop-place l = record {
  before : l.place ≤ l.size;
  same : AreSame l.a l.b l.place;
}

abbrev pub decreases-loop-place : goal.decreases-loop-place
decreases-loop-place l = l.size - l.place
