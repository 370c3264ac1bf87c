use Rattle.std.proofs.Common.{◌<◌, length, arith, rules, SFits}
use Rattle.std.specs.Int.{w128}
use Rattle.std.proofs.lemmas.Int.{to_z-of_z}
use Rattle.std.proofs.lemmas.List.{length-map}
use Rattle.columns_core.specs.Natives.{value_i128}
use Rattle.columns_core.specs.Shapes.{base}
use Rattle.write_values.proofs.DecimalPlaces.{decimal_bound, found_at}
use Rattle.write_values.proofs.order.DecimalsOrderedLeaf.bound.Goals as goal

pub returns-clause-ok : goal.returns-clause-ok
returns-clause-ok c =
    let a = c.args.self.now.array.now in
    let within : c.args.i < length a.1.0 = omega (arith, c.requires, length-map a.1.0 (value_i128 (base a.0))) in
    let fits : SFits w128 c.held_decimal-number.result = search rules in
    decimal_bound (base a.0) c.args.self.now.form a.1.0 c.args.i _ _ c.args.self.now.is_form c.know.ensures.typed within (found_at c.values.result.now a.1.0 c.args.i c.values.ensures within) (rw (c.new-text.ensures.items, to_z-of_z w128 c.held_decimal-number.result fits, c.held_decimal-number.ensures.within) at c.in_ok-push_decimal.ensures.text)
