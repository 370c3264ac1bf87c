use Rattle.std.proofs.Common.{◌≡◌, List, ℕ, ◌-◌, ◌≤◌, ◌++◌, replicate}
use Rattle.pq_runs.specs.Writing.{Extends}
use Rattle.pq_runs.specs.Writing.{Keeps}
use Rattle.pq_runs.proofs.writer.RunWriter.push_many.Given as goal

abbrev pub decreases-loop-left : goal.decreases-loop-left
decreases-loop-left l = l.left

abbrev pub invariant-loop-left : goal.invariant-loop-left
invariant-loop-left l = record {
  most : l.left ≤ l.count;
  width : l.self.width ≡ l.fn.self.width;
  kept : Extends l.fn.out.items l.out.items;
  added : (start xs : List ℕ) → Keeps start l.fn.out.items l.fn.self xs → Keeps start l.out.items l.self (xs ++ replicate (l.count - l.left) l.number);
}
