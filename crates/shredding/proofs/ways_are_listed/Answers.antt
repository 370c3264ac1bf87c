use Rattle.shredding.proofs.Ranges.{ways_are_listed}
use Rattle.shredding.proofs.ways_are_listed.Goals as goal

pub returns : goal.returns
returns c = ways_are_listed
