use Rattle.std.proofs.Common.{ℕ, pos, ◌<◌, ◌≤ℤ◌, get_or, Contains}
use Rattle.pq_deltas.proofs.delta_block.least_of.Given as goal

abbrev pub invariant-loop-delta : goal.invariant-loop-delta
invariant-loop-delta l = record {
  below : (k : ℕ) → k < l.delta-index → l.least ≤ℤ get_or l.deltas k (pos 0);
  one : Contains l.deltas l.least;
}
