use Rattle.std.proofs.Common.{◌≡◌, ◌+◌, ◌≤◌, drop}
use Rattle.read_column.specs.Deltas.{levels_at}
use Rattle.read_column.proofs.deltas.count_equal.Given as goal

abbrev pub invariant-loop-i : goal.invariant-loop-i
invariant-loop-i l = record {
  few : l.count ≤ l.i;
  so_far : l.count + levels_at l.level (drop l.i l.levels) ≡ levels_at l.level l.levels;
}
