use Rattle.sample_sizes.proofs.Pairs.{pairs_are_few}
use Rattle.sample_sizes.proofs.pairs_are_few.Goals as goal

pub returns : goal.returns
returns c = pairs_are_few
