use Rattle.std.proofs.Common.{◌≡◌, ◌≤◌, take}
use Rattle.read_walk.specs.Pairs.{rows_in}
use Rattle.read_walk.proofs.levels.first_rows.Given as goal

abbrev pub invariant-loop-i : goal.invariant-loop-i
invariant-loop-i l = record {
  begun : l.begun ≡ rows_in (take l.i l.reps);
  few : l.begun ≤ l.rows;
  less : l.begun ≤ l.i;
}
