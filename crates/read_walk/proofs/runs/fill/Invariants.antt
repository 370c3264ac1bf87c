use Rattle.std.proofs.Common.{◌≡◌, ◌≤◌, ◌-◌, ◌++◌, length, take}
use Rattle.pq_runs.specs.Hybrid.{given}
use Rattle.read_walk.specs.LevelRuns.{IsReading, runs_left}
use Rattle.read_walk.proofs.runs.fill.Given as goal

abbrev pub invariant-loop-done : goal.invariant-loop-done
invariant-loop-done l = record {
  is : IsReading l.levels;
  within : l.done ≤ length l.out;
  filled : runs_left l.initial.levels ≡ given (take l.done l.out) ++ runs_left l.levels;
}

abbrev pub decreases-loop-done : goal.decreases-loop-done
decreases-loop-done l = length l.initial.out - l.done
