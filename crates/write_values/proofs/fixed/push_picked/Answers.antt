use Rattle.std.proofs.Common.{map, arith, refl}
use Rattle.write_places.specs.Places.{picked}
use Rattle.write_places.proofs.Picked.{next_picked}
use Rattle.write_values.proofs.Picked.{partly_none, partly_more, partly_all, one_less}
use Rattle.write_values.proofs.fixed.push_picked.Goals as goal

pub loop-left-init : goal.loop-left-init
loop-left-init g c = record {
  low = c.requires.low;
  row = partly_none (g.V.FixedValues.physical c.args.values.now) _ (map (g.V.FixedValues.at c.args.values.now) (picked c.args.bits c.args.from c.args.count));
}

pub overflow_add-from : goal.overflow_add-from
overflow_add-from g c =
    let n = next_picked c.loop-left.left c.args.from c.args.count (omega (arith, c.loop-left-test.true)) c.requires.few c.loop-left.invariant.low in
    omega (arith, n.within, c.requires.within, c.len-places.ensures, c.len-places.type_inv)

pub push_one-requires : goal.push_one-requires
push_one-requires g c =
    let n = next_picked c.loop-left.left c.args.from c.args.count (omega (arith, c.loop-left-test.true)) c.requires.few c.loop-left.invariant.low in
    omega (arith, n.within, c.requires.within)

pub loop-left-smaller : goal.loop-left-smaller
loop-left-smaller g c =
    let n = next_picked c.loop-left.left c.args.from c.args.count (omega (arith, c.loop-left-test.true)) c.requires.few c.loop-left.invariant.low in
    omega (arith, one_less _ _ _ _ _ n)

pub loop-left-preserved : goal.loop-left-preserved
loop-left-preserved g c =
    let i = c.loop-left.invariant in
    let p = g.V.FixedValues.physical c.args.values.now in
    let f = g.V.FixedValues.at c.args.values.now in
    let n = next_picked c.loop-left.left c.args.from c.args.count (omega (arith, c.loop-left-test.true)) c.requires.few i.low in
    record {
      low = n.low;
      row = partly_more p c.args.out.now.items c.loop-left.out.items c.push_one.new.out.items (map f (picked c.args.bits c.args.from c.args.count)) f c.loop-left.left _ c.args.from c.args.count _ _ i.row n c.in_ok-push_one.ensures.ok refl;
    }

pub returns-clause-ok : goal.returns-clause-ok
returns-clause-ok g c =
    let p = g.V.FixedValues.physical c.args.values.now in
    let f = g.V.FixedValues.at c.args.values.now in
    partly_all p c.args.out.now.items c.loop-left.out.items (map f (picked c.args.bits c.args.from c.args.count)) f c.loop-left.left c.args.from c.args.count c.loop-left.invariant.row c.loop-left-test.false
