use Rattle.columns_core.proofs.Packed.{single_more, single_differs}
use Rattle.columns_core.proofs.bit_runs.is_same_single.Goals as goal

pub returns-then-bit_in : goal.returns-then-bit_in
returns-then-bit_in c =
    single_differs c.args.a.now c.args.b.now c.args.a_from c.args.b_from c.loop-i.i c.args.length _ _ c.loop-i-test.true c.bit_in.ensures c.bit_in-in-loop-i.ensures c.if-bit_in.true

pub loop-i-preserved : goal.loop-i-preserved
loop-i-preserved c =
    single_more c.args.a.now c.args.b.now c.args.a_from c.args.b_from c.loop-i.i _ _ c.loop-i.invariant c.bit_in.ensures c.bit_in-in-loop-i.ensures c.if-bit_in.false
