use Rattle.read_leaf.proofs.FrontsRead.{fronts-read}
use Rattle.read_leaf.proofs.laws.fronts_are_read.Goals as goal

pub returns : goal.returns
returns c = fronts-read
