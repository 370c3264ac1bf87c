use Rattle.std.proofs.Common.{◌≤◌, ◌+◌, [], length, take}
use Rattle.pq_runs.proofs.Groups.{Grouped}
use Rattle.pq_runs.proofs.group.put_groups.Given as goal

abbrev pub invariant-loop-rest : goal.invariant-loop-rest
invariant-loop-rest l = record {
  room : l.at + length l.rest ≤ length l.places;
  grouped : Grouped l.width [] (take l.at l.places) l.rest l.numbers;
}

abbrev pub decreases-loop-rest : goal.decreases-loop-rest
decreases-loop-rest l = length l.rest
