use Rattle.sample_sizes.proofs.Samples.{samples_are_groups}
use Rattle.sample_sizes.proofs.samples_are_groups.Goals as goal

pub returns : goal.returns
returns c = samples_are_groups
