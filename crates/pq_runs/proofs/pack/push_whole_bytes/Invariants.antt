use Rattle.pq_runs.proofs.Packs.{Shifts}
use Rattle.pq_runs.proofs.pack.push_whole_bytes.Given as goal

abbrev pub invariant-loop-more : goal.invariant-loop-more
invariant-loop-more l = Shifts l.fn.out.items l.out.items l.bits l.held l.more l.left

abbrev pub decreases-loop-more : goal.decreases-loop-more
decreases-loop-more l = l.more
