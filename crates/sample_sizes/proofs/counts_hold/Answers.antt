use Rattle.sample_sizes.proofs.Counts.{counts_hold}
use Rattle.sample_sizes.proofs.counts_hold.Goals as goal

pub returns : goal.returns
returns c = counts_hold
