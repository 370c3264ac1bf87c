use Rattle.std.proofs.Common.{inl, inr, arith, refl, sym}
use Rattle.read_types.proofs.FixedSizes.{fixed_none, fixed_short, fixed_value, fixed_outside}
use Rattle.read_types.proofs.fixed.first_size.Goals as goal

pub returns-then-size-eq0-clause-err : goal.returns-then-size-eq0-clause-err
returns-then-size-eq0-clause-err g c = inl (refl, fixed_none g.T.FixedValue.loaded c.args.size c.args.bytes.now c.if-size-eq0.true)

pub returns-then-bytes-size-clause-err : goal.returns-then-bytes-size-clause-err
returns-then-bytes-size-clause-err g c = inl (refl, fixed_short g.T.FixedValue.loaded c.args.size c.args.bytes.now c.if-bytes-size.true)

pub returns-in-Some-clause-ok : goal.returns-in-Some-clause-ok
returns-in-Some-clause-ok g c = fixed_value g.T.FixedValue.loaded c.args.size c.args.bytes.now _ (omega (arith, c.if-size-eq0.false)) (omega (arith, c.if-bytes-size.false)) (sym c.in-Some.ensures)

pub returns-in-None-clause-err : goal.returns-in-None-clause-err
returns-in-None-clause-err g c = inr (refl, fixed_outside g.T.FixedValue.loaded c.args.size c.args.bytes.now (omega (arith, c.if-size-eq0.false)) (omega (arith, c.if-bytes-size.false)) (sym c.in-None.ensures))
