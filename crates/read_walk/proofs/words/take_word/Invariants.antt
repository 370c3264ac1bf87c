use Rattle.std.proofs.Common.{◌≡◌, ◌≤◌, ◌<◌, ◌^◌, ◌-◌, ◌++◌}
use Rattle.pq_numbers.specs.Bits.{digits_of}
use Rattle.pq_runs.specs.Hybrid.{given}
use Rattle.read_walk.specs.LevelRuns.{IsReading, runs_left}
use Rattle.read_walk.proofs.words.take_word.Given as goal

abbrev pub invariant-loop-done : goal.invariant-loop-done
invariant-loop-done l = record {
  is : IsReading l.levels;
  few : l.done ≤ 64;
  below : l.word < 2 ^ l.done;
  taken : runs_left l.initial.levels ≡ given (digits_of 2 l.done l.word) ++ runs_left l.levels;
}

abbrev pub decreases-loop-done : goal.decreases-loop-done
decreases-loop-done l = 64 - l.done
