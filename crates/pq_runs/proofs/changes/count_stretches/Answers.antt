use Rattle.std.proofs.Common.{get_or, refl}
use Rattle.pq_runs.proofs.Mixed.{counted_more}
use Rattle.pq_runs.proofs.changes.count_stretches.Goals as goal

pub loop-number-preserved : goal.loop-number-preserved
loop-number-preserved c = counted_more c.args.first c.args.numbers.now c.loop-number.number-index c.loop-number.count c.loop-number.last (get_or c.args.numbers.now c.loop-number.number-index 0) c.differs-count.result c.loop-number-test.true refl c.differs-count.ensures.value c.differs-count.ensures.most c.loop-number.invariant
