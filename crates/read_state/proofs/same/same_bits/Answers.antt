use Rattle.std.proofs.Common.{arith, sym, ◌∙◌}
use Rattle.read_state.proofs.SameRuns.{bits-known, bits-next, bits-differ}
use Rattle.read_state.proofs.same.same_bits.Goals as goal

pub loop-i-init : goal.loop-i-init
loop-i-init c = bits-known c.args.a.now c.args.b.now c.args.count c.known_bits-i.result c.known_bits-i.ensures.within c.known_bits-i.ensures.same

pub returns-then-not-agree : goal.returns-then-not-agree
returns-then-not-agree c = (λ t. absurd (cc), λ w. let e = c.agree.ensures.1 (c.bit_in.ensures ∙ (bits-differ c.args.a.now c.args.b.now c.args.count c.loop-i.i (omega (arith, c.loop-i-test.true)) c.loop-i.invariant w ∙ sym c.bit_in-in-loop-i.ensures)) in absurd (cc))

pub loop-i-preserved : goal.loop-i-preserved
loop-i-preserved c = bits-next c.args.a.now c.args.b.now c.args.count c.loop-i.i (omega (arith, c.loop-i-test.true)) c.loop-i.invariant (sym c.bit_in.ensures ∙ (c.agree.ensures.0 c.if-not-agree.false ∙ c.bit_in-in-loop-i.ensures))
