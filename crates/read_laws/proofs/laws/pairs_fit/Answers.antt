use Rattle.read_laws.proofs.Blocks.{pairs-fit}
use Rattle.read_laws.proofs.laws.pairs_fit.Goals as goal

pub returns : goal.returns
returns c = pairs-fit
