use Rattle.std.proofs.Common.{map, arith}
use Rattle.std.proofs.lemmas.List.{length-map}
use Rattle.columns_core.proofs.Steps.{steps-none, steps-more, steps-rise}
use Rattle.columns_core.proofs.offsets.surely_rise.Goals as goal

pub loop-i-init : goal.loop-i-init
loop-i-init g c = steps-none (map g.O.Offset.number c.args.places.now)

pub loop-i-preserved : goal.loop-i-preserved
loop-i-preserved g c = steps-more g.O.Offset.number c.args.places.now c.loop-i.rise c.is_step-rise.result c.loop-i.i c.index-places-i.result c.index-places-i-in-loop-i.result (omega (arith, c.loop-i.auto.i)) (omega (arith, c.loop-i-test.true, c.loop-i.auto.i-end)) c.index-places-i.is c.index-places-i-in-loop-i.is c.is_step-rise.ensures c.loop-i.invariant

pub returns : goal.returns
returns g c r = steps-rise (map g.O.Offset.number c.args.places.now) c.loop-i.rise c.loop-i.i (omega (arith, length-map c.args.places.now g.O.Offset.number, c.if-places-lt2.false)) (omega (arith, length-map c.args.places.now g.O.Offset.number, c.loop-i-test.false, c.loop-i.auto.i-end)) c.loop-i.invariant r
