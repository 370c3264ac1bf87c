use Rattle.std.proofs.Common.{arith}
use Rattle.level_sections.proofs.Bytes.{low-numbers}
use Rattle.level_sections.proofs.tell.four_levels.Goals as goal

pub returns : goal.returns
returns c = low-numbers c.args.planes c.args.low c.args.at _ c.requires.low (omega (arith, c.spread_at-ones.ensures, c.spread_at-twos.ensures, c.spread_at-fours.ensures))
