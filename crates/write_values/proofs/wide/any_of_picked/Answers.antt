use Rattle.std.proofs.Common.{arith}
use Rattle.std.proofs.lemmas.List.{length-map}
use Rattle.columns_core.specs.Natives.{value_i128}
use Rattle.columns_core.specs.Shapes.{base}
use Rattle.write_places.proofs.Picked.{next_picked}
use Rattle.write_values.specs.Decimals.{form_physical}
use Rattle.write_values.specs.Wide.{number_at}
use Rattle.write_values.proofs.Picked.{one_less}
use Rattle.write_values.proofs.WideColumns.{picked_less, none_picked}
use Rattle.write_values.proofs.wide.any_of_picked.Goals as goal

pub overflow_add-from : goal.overflow_add-from
overflow_add-from c =
    let a = c.args.decimals.now.array.now in
    let n = next_picked c.loop-left.left c.args.from c.args.count (omega (arith, c.loop-left-test.true)) c.requires.few c.loop-left.invariant.low in
    omega (arith, n.within, c.requires.within, length-map a.1.0 (value_i128 (base a.0)), c.len-places.ensures, c.len-places.type_inv)

pub is_wide-found-requires : goal.is_wide-found-requires
is_wide-found-requires c =
    let n = next_picked c.loop-left.left c.args.from c.args.count (omega (arith, c.loop-left-test.true)) c.requires.few c.loop-left.invariant.low in
    omega (arith, n.within, c.requires.within)

pub loop-left-smaller : goal.loop-left-smaller
loop-left-smaller c =
    let n = next_picked c.loop-left.left c.args.from c.args.count (omega (arith, c.loop-left-test.true)) c.requires.few c.loop-left.invariant.low in
    omega (arith, one_less _ _ _ _ _ n)

pub loop-left-preserved : goal.loop-left-preserved
loop-left-preserved c =
    let n = next_picked c.loop-left.left c.args.from c.args.count (omega (arith, c.loop-left-test.true)) c.requires.few c.loop-left.invariant.low in
    record {
      low = n.low;
      found = picked_less (form_physical c.args.decimals.now.form) (number_at c.args.decimals.now) _ c.loop-left.found c.is_wide-found.result c.loop-left.left _ c.args.from c.args.count _ n c.is_wide-found.ensures c.loop-left.invariant.found;
    }

pub returns : goal.returns
returns c =
    none_picked (form_physical c.args.decimals.now.form) (number_at c.args.decimals.now) _ c.loop-left.found c.loop-left.left c.args.from c.args.count c.loop-left-test.false c.loop-left.invariant.found
