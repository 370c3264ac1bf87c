use Rattle.read_laws.proofs.PartByPart.{walked}
use Rattle.read_laws.proofs.laws.blocks_are_walks.Goals as goal

pub returns : goal.returns
returns c = walked
