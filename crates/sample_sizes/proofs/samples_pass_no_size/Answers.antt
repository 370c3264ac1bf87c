use Rattle.sample_sizes.proofs.Refused.{samples_pass_no_size}
use Rattle.sample_sizes.proofs.samples_pass_no_size.Goals as goal

pub returns : goal.returns
returns c = samples_pass_no_size
