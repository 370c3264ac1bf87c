use Rattle.std.proofs.Common.{◌≡◌, ◌≤◌, take}
use Rattle.read_walk.specs.Pairs.{rows_in}
use Rattle.read_walk.proofs.folds.count_zeros.Given as goal

abbrev pub invariant-loop-i : goal.invariant-loop-i
invariant-loop-i l = record {
  count : l.count ≡ rows_in (take l.i l.reps);
  less : l.count ≤ l.i;
}
