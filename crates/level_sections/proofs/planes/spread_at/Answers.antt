use Rattle.std.proofs.Common.{◌≡◌, ◌+◌, ◌∙◌, ap, arith}
use Rattle.std.specs.Int.{bit_at}
use Rattle.level_sections.proofs.PlaneNumbers.{field-bit}
use Rattle.level_sections.proofs.planes.spread_at.Goals as goal

pub returns : goal.returns
returns c =
    let here : c.args.at + 0 ≡ c.args.at = omega arith in
    let first = field-bit c.args.word c.args.at 0 (omega arith) ∙ ap (bit_at c.args.word) here in
    omega (arith, c.spread.ensures, first, field-bit c.args.word c.args.at 1 (omega arith), field-bit c.args.word c.args.at 2 (omega arith), field-bit c.args.word c.args.at 3 (omega arith))
