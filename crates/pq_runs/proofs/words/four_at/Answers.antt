use Rattle.std.proofs.Common.{◌≡◌, ◌+◌, ◌∙◌, ap, arith}
use Rattle.std.specs.Int.{bit_at}
use Rattle.pq_runs.proofs.SpreadBits.{field-bit, four-numbers}
use Rattle.pq_runs.proofs.words.four_at.Goals as goal

pub returns : goal.returns
returns c =
    let here : c.args.at + 0 ≡ c.args.at = omega arith in
    let first = field-bit c.args.word c.args.at 0 (omega arith) ∙ ap (bit_at c.args.word) here in
    four-numbers c.args.low c.args.word c.args.at c.spread-ones.result _ c.requires.low (omega (arith, c.spread-ones.ensures, first, field-bit c.args.word c.args.at 1 (omega arith), field-bit c.args.word c.args.at 2 (omega arith), field-bit c.args.word c.args.at 3 (omega arith))) (omega (arith, c.from.ensures))
