use Rattle.std.proofs.Common.{arith}
use Rattle.nested_paths.proofs.Sames.{words-more}
use Rattle.nested_paths.proofs.merge.same_end.Goals as goal

pub loop-place-preserved : goal.loop-place-preserved
loop-place-preserved c = record {
  before = omega (arith, c.loop-place-test.true, c.loop-place.invariant.before);
  same = words-more c.args.a.now c.args.b.now c.loop-place.place 64 _ _ c.word_at.ensures.bits c.word_at-in-loop-place.ensures.bits c.if-word_at.false c.loop-place.invariant.same;
}
