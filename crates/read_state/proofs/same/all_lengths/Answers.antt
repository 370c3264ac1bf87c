use Rattle.std.proofs.Common.{arith, sym, ◌∙◌}
use Rattle.std.proofs.lemmas.Bool.{and_parts, eqb-true}
use Rattle.read_state.proofs.SameRuns.{lengths-next, lengths-end}
use Rattle.read_state.proofs.same.all_lengths.Goals as goal

pub loop-i-preserved : goal.loop-i-preserved
loop-i-preserved c = λ is.
    let both = and_parts _ _ is in
    let same = eqb-true _ _ both.1 in
    lengths-next c.args.a.now c.args.b.now c.loop-i.i (omega (arith, c.loop-i-test.true)) (omega (arith, c.loop-i-test.true, c.requires)) (c.loop-i.invariant both.0) (sym c.cast_unsigned.ensures ∙ (same ∙ c.cast_unsigned-in-loop-i.ensures))

pub returns : goal.returns
returns c = λ is. lengths-end c.args.a.now c.args.b.now c.loop-i.i (omega (arith, c.loop-i-test.false)) (omega (arith, c.loop-i-test.false, c.requires)) (c.loop-i.invariant is)
