use Rattle.std.proofs.Common.{arith}
use Rattle.write_values.proofs.FixedPlaces.{run_none, run_more}
use Rattle.write_values.proofs.fixed.push_each.Goals as goal

pub loop-i-init : goal.loop-i-init
loop-i-init g c = run_none (g.V.FixedValues.physical c.args.values.now) (g.V.FixedValues.at c.args.values.now) c.args.from _

pub loop-i-preserved : goal.loop-i-preserved
loop-i-preserved g c =
    run_more (g.V.FixedValues.physical c.args.values.now) (g.V.FixedValues.at c.args.values.now) c.args.from c.loop-i.i _ _ _ (omega arith) c.loop-i.invariant c.in_ok-push_one.ensures.ok
