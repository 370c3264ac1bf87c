use Rattle.std.proofs.Common.{arith}
use Rattle.level_sections.proofs.PlaneNumbers.{four-numbers}
use Rattle.level_sections.proofs.planes.four_at.Goals as goal

pub returns : goal.returns
returns c = four-numbers c.args.planes c.args.at _ (omega (arith, c.spread_at-ones.ensures, c.spread_at-twos.ensures, c.spread_at-fours.ensures))
