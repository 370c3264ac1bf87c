use Rattle.std.proofs.Common.{arith}
use Rattle.read_leaf.proofs.DecimalsRead.{product-fits, sum-fits}
use Rattle.read_leaf.proofs.fixed_values.unsigned_number.Goals as goal

pub overflow_mul-number : goal.overflow_mul-number
overflow_mul-number c = omega (arith, product-fits c.loop-i.i c.loop-i.number c.loop-i.greatest (omega (arith, c.loop-i-test.true, c.requires)) c.loop-i.invariant.ones c.loop-i.invariant.below)

pub overflow_add-number : goal.overflow_add-number
overflow_add-number c = omega (arith, sum-fits c.loop-i.i c.loop-i.number c.loop-i.greatest c.from.result (omega (arith, c.loop-i-test.true, c.requires)) (omega (arith, c.from.ensures, c.type_inv.bytes c.loop-i.i)) c.loop-i.invariant.ones c.loop-i.invariant.below)

pub overflow_mul-greatest : goal.overflow_mul-greatest
overflow_mul-greatest c = omega (arith, product-fits c.loop-i.i c.loop-i.greatest c.loop-i.greatest (omega (arith, c.loop-i-test.true, c.requires)) c.loop-i.invariant.ones (omega arith))

pub overflow_add-greatest : goal.overflow_add-greatest
overflow_add-greatest c = omega (arith, sum-fits c.loop-i.i c.loop-i.greatest c.loop-i.greatest 255 (omega (arith, c.loop-i-test.true, c.requires)) (omega arith) c.loop-i.invariant.ones (omega arith))
