use Rattle.std.proofs.Common.{arith}
use Rattle.std.proofs.lemmas.Bool.{and_parts, eqb-true}
use Rattle.read_state.proofs.SameRuns.{items-more, bits-of-bytes}
use Rattle.read_state.proofs.same.all_bytes.Goals as goal

pub loop-i-preserved : goal.loop-i-preserved
loop-i-preserved c = λ is.
    let both = and_parts _ _ is in
    items-more c.args.a.now c.args.b.now c.loop-i.i (c.loop-i.invariant both.0) (eqb-true _ _ both.1)

pub returns : goal.returns
returns c = λ is. bits-of-bytes c.args.a.now c.args.b.now c.args.count (λ j h. c.loop-i.invariant is j (omega (arith, h, c.loop-i-test.false)))
