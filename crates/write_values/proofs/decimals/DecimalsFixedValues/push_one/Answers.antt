use Rattle.std.proofs.Common.{◌<◌, length, arith}
use Rattle.std.proofs.lemmas.List.{length-map}
use Rattle.columns_core.specs.Natives.{value_i128}
use Rattle.columns_core.specs.Shapes.{base}
use Rattle.write_values.specs.Decimals.{form_physical}
use Rattle.write_values.proofs.DecimalPlaces.{decimal_here, found_at}
use Rattle.write_values.proofs.decimals.DecimalsFixedValues.push_one.Goals as goal

pub returns-clause-ok : goal.returns-clause-ok
returns-clause-ok c =
    let a = c.args.self.now.array.now in
    let within : c.args.i < length a.1.0 = omega (arith, c.requires, length-map a.1.0 (value_i128 (base a.0))) in
    decimal_here a.0 (form_physical c.args.self.now.form) a.1.0 a.1.1 c.args.i _ _ _ c.know.ensures.typed within (found_at c.values.result.now a.1.0 c.args.i c.values.ensures within) c.in_ok-push_decimal.ensures.ok
