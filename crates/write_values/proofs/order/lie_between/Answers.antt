use Rattle.std.proofs.Common.{◌≤ℤ◌}
use Rattle.write_values.proofs.Ordered.{between_more, between_all}
use Rattle.write_values.proofs.order.lie_between.Goals as goal

pub loop-number-preserved : goal.loop-number-preserved
loop-number-preserved g c =
    between_more g.T.OrderedNative.ordinal c.args.low.now c.args.high.now c.args.numbers.now c.loop-number.number-index c.number-item.result c.loop-number.are_past _ _ c.loop-number-test.true c.number-item.is c.loop-number.invariant c.is_less-are_past.ensures c.is_less-are_past-in-loop-number.ensures

pub returns : goal.returns
returns g c =
    let ordinal = g.T.OrderedNative.ordinal in
    between_all (λ x. (ordinal c.args.low.now ≤ℤ ordinal x) × (ordinal x ≤ℤ ordinal c.args.high.now)) c.args.numbers.now _ _ c.loop-number-test.false c.loop-number.invariant
