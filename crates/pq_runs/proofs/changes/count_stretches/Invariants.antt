use Rattle.pq_runs.proofs.Mixed.{Counted}
use Rattle.pq_runs.proofs.changes.count_stretches.Given as goal

abbrev pub invariant-loop-number : goal.invariant-loop-number
invariant-loop-number l = Counted l.first l.numbers l.number-index l.count l.last
