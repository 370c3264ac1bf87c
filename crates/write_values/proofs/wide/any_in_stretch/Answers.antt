use Rattle.std.proofs.Common.{arith}
use Rattle.write_values.specs.Decimals.{form_physical}
use Rattle.write_values.specs.Wide.{number_at}
use Rattle.write_values.proofs.WideColumns.{range_less, range_none}
use Rattle.write_values.proofs.wide.any_in_stretch.Goals as goal

pub loop-i-preserved : goal.loop-i-preserved
loop-i-preserved c =
    range_less (form_physical c.args.decimals.now.form) (number_at c.args.decimals.now) _ c.loop-i.found c.is_wide-found.result c.loop-i.i c.args.to c.loop-i-test.true c.is_wide-found.ensures c.loop-i.invariant

pub returns : goal.returns
returns c =
    range_none (form_physical c.args.decimals.now.form) (number_at c.args.decimals.now) _ c.loop-i.found c.loop-i.i c.args.to (omega (arith, c.loop-i-test.false)) c.loop-i.invariant
