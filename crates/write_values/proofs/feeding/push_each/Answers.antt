use Rattle.std.proofs.Common.{arith}
use Rattle.write_values.proofs.Fed.{fed_none, fed_more}
use Rattle.write_values.proofs.feeding.push_each.Goals as goal

pub loop-i-init : goal.loop-i-init
loop-i-init g c = fed_none g.D.DeltaValues.width g.D.DeltaValues.physical (g.D.DeltaValues.at c.args.values.now) c.args.from _ _

pub loop-i-preserved : goal.loop-i-preserved
loop-i-preserved g c =
    fed_more g.D.DeltaValues.width g.D.DeltaValues.physical (g.D.DeltaValues.at c.args.values.now) c.args.from c.loop-i.i _ _ _ _ _ _ (omega arith) c.loop-i.invariant c.in_ok-push_one.ensures
