use Rattle.std.proofs.Common.{◌≡◌, ◌<◌, length}
use Rattle.pq_runs.specs.State.{IsState, items}
use Rattle.pq_runs.proofs.state.find.Given as goal

abbrev pub decreases-loop-state : goal.decreases-loop-state
decreases-loop-state l = length l.state.bytes.now

abbrev pub invariant-loop-state : goal.invariant-loop-state
invariant-loop-state l = record {
  is : IsState l.state;
  same : items l.state ≡ items l.fn.state;
  some : 0 < l.state.left;
}
