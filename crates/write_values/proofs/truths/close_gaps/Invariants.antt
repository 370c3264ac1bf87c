use Rattle.write_values.proofs.ClosedGaps.{IsClosing}
use Rattle.write_values.proofs.truths.close_gaps.Given as goal

abbrev pub invariant-loop-gaps : goal.invariant-loop-gaps
invariant-loop-gaps l = record { is : IsClosing l.values l.bits l.count l.gaps l.word }

abbrev pub decreases-loop-gaps : goal.decreases-loop-gaps
decreases-loop-gaps l = l.gaps
