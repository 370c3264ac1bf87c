use Rattle.shredding.proofs.Levels.{levels_are_within}
use Rattle.shredding.proofs.levels_are_within.Goals as goal

pub returns : goal.returns
returns c = levels_are_within
