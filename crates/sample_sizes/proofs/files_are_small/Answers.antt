use Rattle.sample_sizes.proofs.Bytes.{files_are_small}
use Rattle.sample_sizes.proofs.files_are_small.Goals as goal

pub returns : goal.returns
returns c = files_are_small
