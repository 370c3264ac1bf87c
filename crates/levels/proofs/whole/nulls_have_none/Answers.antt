use Rattle.std.proofs.Common.{arith, refl}
use Rattle.levels.specs.Nested.{parts_of}
use Rattle.levels.specs.Sizes.{HasNoItems}
use Rattle.levels.proofs.Wholes.{masked-more}
use Rattle.levels.proofs.whole.nulls_have_none.Goals as goal

pub loop-place-preserved : goal.loop-place-preserved
loop-place-preserved c = record {
  after = omega (arith, c.loop-place.invariant.after);
  none = masked-more (HasNoItems (parts_of c.args.parts.now)) c.args.mask.now c.args.from c.loop-place.place c.min-count.result c.null_word.result c.null_word.ensures.nulls (c.if-not-have_none.ensures refl) c.loop-place.invariant.none;
}
