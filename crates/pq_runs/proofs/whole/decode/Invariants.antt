use Rattle.std.proofs.Common.{◌≡◌, ◌≤◌, ◌-◌, ◌++◌, length}
use Rattle.pq_runs.specs.Hybrid.{given, runs_items}
use Rattle.pq_runs.proofs.whole.decode.Given as goal

abbrev pub invariant-loop-rest : goal.invariant-loop-rest
invariant-loop-rest l = record {
  within : length l.numbers.items ≤ l.called;
  so_far : given l.numbers.items ++ runs_items (length l.rest) l.width (l.called - length l.numbers.items) l.rest ≡ runs_items (length l.bytes) l.width l.called l.bytes;
}

abbrev pub decreases-loop-rest : goal.decreases-loop-rest
decreases-loop-rest l = length l.rest
