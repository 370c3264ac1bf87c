use Rattle.std.proofs.Common.{◌≡◌, ◌++◌, replicate}
use Rattle.pq_runs.proofs.whole.push_copies.Given as goal

abbrev pub invariant-loop-left : goal.invariant-loop-left
invariant-loop-left l = l.numbers.items ++ replicate l.left l.number ≡ l.fn.numbers.items ++ replicate l.count l.number

abbrev pub decreases-loop-left : goal.decreases-loop-left
decreases-loop-left l = l.left
