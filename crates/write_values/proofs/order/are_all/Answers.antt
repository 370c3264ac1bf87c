use Rattle.std.proofs.Common.{◌-◌, arith}
use Rattle.write_values.proofs.AlikeTruths.{alike_more}
use Rattle.write_values.proofs.order.are_all.Goals as goal

pub loop-at-preserved : goal.loop-at-preserved
loop-at-preserved c =
    let i = c.loop-at.invariant in
    let e = c.block_end-end.ensures in
    record {
      from = omega (arith, i.from, e.past);
      before = e.within;
      alike = λ j low high. alike_more c.args.values.now c.args.value c.args.from c.loop-at.at (c.block_end-end.result - c.loop-at.at) _ _ c.if-word_at-repeated_bit.false c.word_at.ensures.bits c.repeated_bit.ensures i.alike j low (omega (arith, high, e.past));
    }
