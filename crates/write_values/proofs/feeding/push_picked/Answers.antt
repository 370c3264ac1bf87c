use Rattle.std.proofs.Common.{map, arith}
use Rattle.write_places.specs.Places.{picked}
use Rattle.write_places.proofs.Picked.{next_picked}
use Rattle.write_values.proofs.Picked.{one_less}
use Rattle.write_values.proofs.Fed.{partly_none, partly_more, partly_all}
use Rattle.write_values.proofs.feeding.push_picked.Goals as goal

pub loop-left-init : goal.loop-left-init
loop-left-init g c = record {
  low = c.requires.low;
  row = partly_none g.D.DeltaValues.width g.D.DeltaValues.physical _ _ (map (g.D.DeltaValues.at c.args.values.now) (picked c.args.bits c.args.from c.args.count));
}

pub overflow_add-from : goal.overflow_add-from
overflow_add-from g c =
    let n = next_picked c.loop-left.left c.args.from c.args.count (omega (arith, c.loop-left-test.true)) c.requires.few c.loop-left.invariant.low in
    omega (arith, n.within, c.requires.within, c.len-places.ensures, c.len-places.type_inv)

pub push_one-requires : goal.push_one-requires
push_one-requires g c =
    let n = next_picked c.loop-left.left c.args.from c.args.count (omega (arith, c.loop-left-test.true)) c.requires.few c.loop-left.invariant.low in
    omega (arith, n.within, c.requires.within)

pub loop-left-smaller : goal.loop-left-smaller
loop-left-smaller g c =
    let n = next_picked c.loop-left.left c.args.from c.args.count (omega (arith, c.loop-left-test.true)) c.requires.few c.loop-left.invariant.low in
    omega (arith, one_less _ _ _ _ _ n)

pub loop-left-preserved : goal.loop-left-preserved
loop-left-preserved g c =
    let i = c.loop-left.invariant in
    let f = g.D.DeltaValues.at c.args.values.now in
    let n = next_picked c.loop-left.left c.args.from c.args.count (omega (arith, c.loop-left-test.true)) c.requires.few i.low in
    record {
      low = n.low;
      row = partly_more g.D.DeltaValues.width g.D.DeltaValues.physical _ _ _ _ _ _ (map f (picked c.args.bits c.args.from c.args.count)) f c.loop-left.left _ c.args.from c.args.count _ i.row n c.in_ok-push_one.ensures;
    }

pub returns : goal.returns
returns g c =
    let f = g.D.DeltaValues.at c.args.values.now in
    partly_all g.D.DeltaValues.width g.D.DeltaValues.physical _ _ _ _ (map f (picked c.args.bits c.args.from c.args.count)) f c.loop-left.left c.args.from c.args.count c.loop-left.invariant.row c.loop-left-test.false
