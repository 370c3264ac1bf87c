use Rattle.std.proofs.Common.{arith}
use Rattle.read_column.proofs.Present.{level_more, level_past}
use Rattle.read_column.proofs.deltas.count_equal.Goals as goal

pub loop-i-preserved : goal.loop-i-preserved
loop-i-preserved c = record {
  few = omega (arith, c.loop-i.invariant.few, c.count_one-count.ensures.most);
  so_far = level_more c.args.level c.loop-i.i c.loop-i.count c.count_one-count.result _ c.args.levels.now (omega (arith, c.loop-i-test.true)) c.count_one-count.ensures.is c.loop-i.invariant.so_far;
}

pub returns : goal.returns
returns c = omega (arith, c.loop-i.invariant.so_far, level_past c.args.level c.loop-i.i c.args.levels.now (omega (arith, c.loop-i-test.false)))
