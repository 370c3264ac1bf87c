use Rattle.std.proofs.Common.{ℕ, ◌<◌, ◌≤◌, ◌^◌, get_or}
use Rattle.pq_deltas.proofs.delta_block.width_of.Given as goal

abbrev pub invariant-loop-number : goal.invariant-loop-number
invariant-loop-number l = record {
  most_fits : l.most < 2 ^ 64;
  below : (k : ℕ) → k < l.number-index → get_or l.numbers k 0 ≤ l.most;
  least : (u : ℕ) → ((k : ℕ) → k < l.number-index → get_or l.numbers k 0 < 2 ^ u) → l.most < 2 ^ u;
}
