use Rattle.std.proofs.Common.{◌≡◌, ℕ, ◌-◌, ◌^◌, ◌<◌, ◌≤◌, ◌++◌, length, replicate, All}
use Rattle.pq_runs.specs.Stretches.{filled_up}
use Rattle.pq_runs.proofs.writer.push_last.Given as goal

abbrev pub decreases-loop-block : goal.decreases-loop-block
decreases-loop-block l = 504 - length l.block

abbrev pub invariant-loop-block : goal.invariant-loop-block
invariant-loop-block l = record {
  most : length l.block ≤ 504;
  near : length l.block ≤ filled_up (length l.fn.block);
  below : All (λ v. v < 2 ^ l.width) l.block;
  behind : (k : ℕ) × (l.block ≡ l.fn.block ++ replicate k 0);
}
