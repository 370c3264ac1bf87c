use Rattle.std.proofs.Common.{ap, inl, inr, arith, length, refl, sym, ◌∙◌}
use Rattle.read_types.proofs.Sizes.{string-cut, string-outside, string-short, string-value}
use Rattle.read_types.proofs.strings.string_size.Goals as goal

pub returns-in_default-clause-err : goal.returns-in_default-clause-err
returns-in_default-clause-err g c = inl (refl, string-short _ c.args.bytes.now c.in_default.ensures)

pub returns-then-behind-count-clause-err : goal.returns-then-behind-count-clause-err
returns-then-behind-count-clause-err g c = inl (refl, string-cut _ c.args.bytes.now c.in-Some.count c.in-Some.ensures.0 c.in-Some.ensures.1 (omega (arith, c.if-behind-count.true, ap length c.skip-behind.ensures)))

pub returns-then-not-is_value-clause-err : goal.returns-then-not-is_value-clause-err
returns-then-not-is_value-clause-err g c = inr (refl, string-outside _ c.args.bytes.now c.in-Some.count c.in-Some.ensures.0 c.in-Some.ensures.1 (omega (arith, c.if-behind-count.false, ap length c.skip-behind.ensures)) (rw (← c.skip-behind.ensures) (sym c.is_value.ensures) ∙ c.if-not-is_value.true))

pub returns-clause-ok : goal.returns-clause-ok
returns-clause-ok g c = string-value _ c.args.bytes.now c.in-Some.count c.in-Some.ensures.0 c.in-Some.ensures.1 (omega (arith, c.if-behind-count.false, ap length c.skip-behind.ensures)) (rw (← c.skip-behind.ensures) (sym c.is_value.ensures) ∙ c.if-not-is_value.false)
