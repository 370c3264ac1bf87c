use Rattle.std.proofs.Common.{arith}
use Rattle.pq_runs.proofs.Changing.{first_alone, one_more}
use Rattle.pq_runs.proofs.changes.changes_in.Goals as goal

pub loop-i-init : goal.loop-i-init
loop-i-init c = record { value = first_alone c.args.numbers.now (omega (arith, c.requires)); few = omega arith }

pub loop-i-preserved : goal.loop-i-preserved
loop-i-preserved c = record {
  value = one_more c.args.numbers.now c.loop-i.i c.loop-i.changes c.differs-changes.result (omega (arith, c.requires, c.loop-i-test.true)) c.differs-changes.ensures.value c.loop-i.invariant.value;
  few = omega (arith, c.loop-i.invariant.few, c.differs-changes.ensures.most);
}
