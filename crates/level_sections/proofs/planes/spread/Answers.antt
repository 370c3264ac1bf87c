use Rattle.level_sections.proofs.PlaneNumbers.{spread_of}
use Rattle.level_sections.proofs.planes.spread.Goals as goal

pub returns : goal.returns
returns c = spread_of c.args.bits c.requires
