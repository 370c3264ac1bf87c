use Rattle.std.proofs.Common.{◌+◌, arith}
use Rattle.level_sections.proofs.PlaneNumbers.{four-numbers, no-four}
use Rattle.level_sections.proofs.planes.low_four_at.Goals as goal

pub returns : goal.returns
returns c =
    let planes = c.args.planes in
    let at = c.args.at in
    four-numbers planes at _ (omega (arith, c.spread_at-ones.ensures, c.spread_at-twos.ensures, no-four planes at c.requires.low, no-four planes (at + 1) c.requires.low, no-four planes (at + 2) c.requires.low, no-four planes (at + 3) c.requires.low))
