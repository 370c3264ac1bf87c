use Rattle.std.proofs.Common.{refl, arith}
use Rattle.read_walk.proofs.Mixing.{picked-next, picked-done}
use Rattle.read_walk.proofs.decode.picked_bits.Goals as goal

pub loop-count-init : goal.loop-count-init
loop-count-init c = record { all = refl; few = omega arith; fits = c.ranges.set.fits }

pub loop-count-preserved : goal.loop-count-preserved
loop-count-preserved c =
    let i = c.loop-count.invariant in
    picked-next c.loop-count.left c.trailing_ones-at.result i.fits c.trailing_ones-at.ensures _ c.loop-count.picked c.loop-count.count c.without_bit-left.result c.without_bit-picked.result (omega (arith, c.loop-count-test.true, c.trailing_ones.ensures, c.trailing_ones-at.ensures)) c.without_bit-left.type_inv c.without_bit-left.ensures c.without_bit-picked.ensures i

pub returns-clause-bits : goal.returns-clause-bits
returns-clause-bits c =
    let i = c.loop-count.invariant in
    picked-done c.loop-count.left c.trailing_ones.result i.fits c.trailing_ones.ensures _ c.loop-count.picked c.loop-count.count (omega (arith, c.loop-count-test.false)) i
