use Rattle.read_walk.proofs.Grammar.{pairs-read}
use Rattle.read_walk.proofs.laws.pairs_are_read.Goals as goal

pub returns : goal.returns
returns c = pairs-read
