use Rattle.std.proofs.Common.{arith}
use Rattle.levels.proofs.ItemEnds.{items_more}
use Rattle.levels.proofs.items.first_empty.Goals as goal

pub loop-end-preserved : goal.loop-end-preserved
loop-end-preserved g c = record {
  after = omega (arith, c.loop-end.invariant.after);
  within = omega (arith, c.loop-end-test.true);
  full = items_more c.args.offsets.now c.args.place c.loop-end.end c.place.result c.place-in-loop-end.result c.know.ensures c.place.ensures c.place-in-loop-end.ensures c.if-place.false (omega (arith, c.loop-end-test.true, c.requires.within)) c.loop-end.invariant.full;
}
