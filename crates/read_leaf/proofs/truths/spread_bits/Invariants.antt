use Rattle.read_leaf.proofs.Spreading.{IsSpreading}
use Rattle.read_leaf.proofs.truths.spread_bits.Given as goal

abbrev pub invariant-loop-nulls : goal.invariant-loop-nulls
invariant-loop-nulls l = record { is : IsSpreading l.count l.valid l.source l.nulls l.word }

abbrev pub decreases-loop-nulls : goal.decreases-loop-nulls
decreases-loop-nulls l = l.nulls
