use Rattle.columns_core.proofs.Packed.{whole_more, whole_differs}
use Rattle.std.proofs.Common.{rules}
use Rattle.columns_core.proofs.bit_runs.is_same_whole.Goals as goal

pub returns-then-eight_bits : goal.returns-then-eight_bits
returns-then-eight_bits c =
    whole_differs c.args.a.now c.args.b.now c.args.a_from c.args.b_from c.loop-i.i c.args.count c.eight_bits.result c.eight_bits-in-loop-i.result c.loop-i-test.true (search rules) (search rules) c.eight_bits.ensures c.eight_bits-in-loop-i.ensures c.if-eight_bits.true

pub loop-i-preserved : goal.loop-i-preserved
loop-i-preserved c =
    whole_more c.args.a.now c.args.b.now c.args.a_from c.args.b_from c.loop-i.i c.eight_bits.result c.eight_bits-in-loop-i.result c.loop-i.invariant c.eight_bits.ensures c.eight_bits-in-loop-i.ensures c.if-eight_bits.false
