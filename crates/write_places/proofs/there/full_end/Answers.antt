use Rattle.std.proofs.Common.{arith}
use Rattle.levels.specs.Nested.{parts_of}
use Rattle.write_places.specs.There.{is_there}
use Rattle.write_places.proofs.Bits.{full_further}
use Rattle.write_places.proofs.there.full_end.Goals as goal

pub loop-end-preserved : goal.loop-end-preserved
loop-end-preserved c =
    let i = c.loop-end.invariant in
    record {
      after = omega (arith, i.after);
      within = omega (arith, i.within, c.loop-end-test.true);
      there = full_further (is_there (parts_of c.args.parts.now)) c.args.from c.loop-end.end 64 c.masked_word.result c.if-masked_word.false c.masked_word.ensures.bits i.there;
    }
