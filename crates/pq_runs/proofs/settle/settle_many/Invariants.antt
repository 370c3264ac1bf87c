use Rattle.std.proofs.Common.{◌≡◌, ℕ, List, ◌<◌, ◌≤◌, ◌-◌, ◌+◌, ◌^◌, ◌++◌, length, replicate, All}
use Rattle.pq_runs.specs.Writing.{Extends, Wrote, IsTight}
use Rattle.pq_runs.proofs.Settling.{Taken, IsFilling}
use Rattle.pq_runs.proofs.settle.settle_many.Given as goal

abbrev pub decreases-loop-left : goal.decreases-loop-left
decreases-loop-left l = l.left

abbrev pub invariant-loop-left : goal.invariant-loop-left
invariant-loop-left l = record {
  most : l.left ≤ l.count;
  room : length l.block < 504;
  kept : Extends l.fn.out.items l.out.items;
  below : All (λ v. v < 2 ^ l.width) l.block;
  wrote : (start xs : List ℕ) → Wrote l.width start l.fn.out.items l.fn.block xs → Wrote l.width start l.out.items l.block (xs ++ replicate (l.count - l.left) l.number);
  taken : Taken l.width l.fn.out.items l.fn.block l.out.items l.block (l.count - l.left);
  filling : IsFilling l.many (length l.fn.block) l.count l.left;
  tight : (start done : ℕ) → IsTight l.width start (length l.fn.out.items) done → (more : ℕ) × (done + length l.fn.block + (l.count - l.left) ≡ more + length l.block) × IsTight l.width start (length l.out.items) more;
}
