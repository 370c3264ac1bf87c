use Rattle.std.proofs.Common.{arith, sym, ◌∙◌}
use Rattle.read_state.proofs.SameRuns.{lengths-next, lengths-differ}
use Rattle.read_state.proofs.same.same_lengths.Goals as goal

pub returns-then-cast_unsigned : goal.returns-then-cast_unsigned
returns-then-cast_unsigned c = (λ t. absurd (cc), λ w. absurd (c.if-cast_unsigned.true (c.cast_unsigned.ensures ∙ (lengths-differ c.args.a.now c.args.b.now c.loop-i.i (omega (arith, c.loop-i-test.true)) (omega (arith, c.loop-i-test.true)) c.loop-i.invariant w ∙ sym c.cast_unsigned-in-loop-i.ensures))))

pub loop-i-preserved : goal.loop-i-preserved
loop-i-preserved c = lengths-next c.args.a.now c.args.b.now c.loop-i.i (omega (arith, c.loop-i-test.true)) (omega (arith, c.loop-i-test.true)) c.loop-i.invariant (sym c.cast_unsigned.ensures ∙ (c.if-cast_unsigned.false ∙ c.cast_unsigned-in-loop-i.ensures))
