use Rattle.std.proofs.Common.{◌≡◌, ℕ, pos, ◌<◌, ◌+ℤ◌, get_or}
use Rattle.pq_deltas.proofs.delta_block.rises.Given as goal

abbrev pub invariant-loop-i : goal.invariant-loop-i
invariant-loop-i l = (k : ℕ) → k < l.i → l.least +ℤ pos (get_or l.out k 0) ≡ get_or l.deltas k (pos 0)
