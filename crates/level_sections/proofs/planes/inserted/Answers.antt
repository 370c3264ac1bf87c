use Rattle.std.proofs.Common.{◌+◌, ◌≡◌, ◌∙◌, ap, arith}
use Rattle.std.specs.Int.{bit_at}
use Rattle.level_sections.proofs.PlaneNumbers.{bit-shift}
use Rattle.level_sections.proofs.planes.inserted.Goals as goal

pub returns-clause-below : goal.returns-clause-below
returns-clause-below c = λ i h. c.joined.ensures.front i h

pub returns-clause-here : goal.returns-clause-here
returns-clause-here c =
    let place : c.args.at ≡ c.args.at + 0 = omega arith in
    ap (bit_at c.joined.result) place ∙ (c.joined.ensures.back 0 (omega (arith, c.requires.within)) ∙ c.joined-others.ensures.front 0 (omega arith))

pub returns-clause-above : goal.returns-clause-above
returns-clause-above c = λ i h.
    let place : c.args.at + 1 + i ≡ c.args.at + (1 + i) = omega arith in
    ap (bit_at c.joined.result) place ∙ (c.joined.ensures.back (1 + i) (omega (arith, h)) ∙ (c.joined-others.ensures.back i (omega (arith, h)) ∙ bit-shift c.args.word c.args.at i))
