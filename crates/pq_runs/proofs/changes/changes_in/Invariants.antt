use Rattle.std.proofs.Common.{◌≡◌, ◌≤◌, ◌+◌, take}
use Rattle.pq_runs.specs.Stretches.{stretches}
use Rattle.pq_runs.proofs.changes.changes_in.Given as goal

abbrev pub invariant-loop-i : goal.invariant-loop-i
invariant-loop-i l = record {
  value : l.changes + 1 ≡ stretches (take (l.i + 1) l.numbers);
  few : l.changes ≤ l.i;
}
