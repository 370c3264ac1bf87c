use Rattle.std.proofs.Common.{◌≡◌, ◌<◌, length}
use Rattle.read_walk.specs.LevelRuns.{IsReading, runs_left}
use Rattle.read_walk.proofs.runs.find.Given as goal

abbrev pub decreases-loop-levels : goal.decreases-loop-levels
decreases-loop-levels l = length l.levels.runs.values.now

abbrev pub invariant-loop-levels : goal.invariant-loop-levels
invariant-loop-levels l = record {
  is : IsReading l.levels;
  same : runs_left l.levels ≡ runs_left l.fn.levels;
  some : 0 < l.levels.left;
}
