use Rattle.pq_delta_reads.proofs.Passing.{Passing}
use Rattle.pq_delta_reads.proofs.strings.behind_lengths.Given as goal

abbrev pub invariant-loop-item : goal.invariant-loop-item
invariant-loop-item l = Passing l.initial.decoder l.decoder

abbrev pub decreases-loop-item : goal.decreases-loop-item
decreases-loop-item l = l.decoder.left
