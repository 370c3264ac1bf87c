use Rattle.std.proofs.Common.{arith}
use Rattle.read_leaf.specs.Fixed.{stored_fixed}
use Rattle.read_leaf.proofs.MixedValues.{taken-none, taken-more, taken-cannot}
use Rattle.read_leaf.proofs.fixed.take_slots.Goals as goal

pub loop-i-init : goal.loop-i-init
loop-i-init g c = record { is = taken-none (stored_fixed g.T.FixedValue.loaded c.args.size) c.args.valid c.args.bytes.now _; kept = omega arith }

pub returns-in-Err-clause-err : goal.returns-in-Err-clause-err
returns-in-Err-clause-err g c = λ slots. taken-cannot (stored_fixed g.T.FixedValue.loaded c.args.size) 0 c.args.valid c.loop-i.i c.loop-i.bits c.args.count c.args.bytes.now c.loop-i.rest.now _ _ c.in-Err.error c.loop-i-test.true c.loop-i.invariant.is c.in-Err.ensures.err slots

pub returns-in-Err-clause-kept : goal.returns-in-Err-clause-kept
returns-in-Err-clause-kept g c = omega (arith, c.loop-i.invariant.kept, c.take_slot.ensures.kept)

pub loop-i-preserved : goal.loop-i-preserved
loop-i-preserved g c = record {
  is = taken-more (stored_fixed g.T.FixedValue.loaded c.args.size) c.args.valid c.loop-i.i c.loop-i.bits c.args.bytes.now c.loop-i.rest.now c.in-Ok.behind.now _ _ _ c.loop-i.invariant.is c.in-Ok.ensures.ok;
  kept = omega (arith, c.loop-i.invariant.kept, c.take_slot.ensures.kept);
}
