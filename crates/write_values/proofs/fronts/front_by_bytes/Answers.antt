use Rattle.std.proofs.Common.{arith}
use Rattle.write_values.proofs.FirstBytes.{front_fits, front_next, small_slice}
use Rattle.write_values.proofs.fronts.front_by_bytes.Goals as goal

pub overflow_mul-number : goal.overflow_mul-number
overflow_mul-number c = omega (arith, front_fits c.loop-i.i c.loop-i.number c.args.text.now (small_slice c.args.text.now (λ i. omega (arith, c.type_inv.text i))) (omega (arith, c.loop-i-test.true)) c.loop-i.invariant)

pub overflow_add-number : goal.overflow_add-number
overflow_add-number c = omega (arith, front_fits c.loop-i.i c.loop-i.number c.args.text.now (small_slice c.args.text.now (λ i. omega (arith, c.type_inv.text i))) (omega (arith, c.loop-i-test.true)) c.loop-i.invariant, c.byte_or_none.type_inv)

pub loop-i-preserved : goal.loop-i-preserved
loop-i-preserved c = front_next c.loop-i.i c.loop-i.number c.byte_or_none.result c.args.text.now c.loop-i.invariant c.byte_or_none.ensures

pub returns-clause-small : goal.returns-clause-small
returns-clause-small c = small_slice c.args.text.now (λ i. omega (arith, c.type_inv.text i))
