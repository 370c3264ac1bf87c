use Rattle.sample_sizes.proofs.Offsets.{offsets_hold}
use Rattle.sample_sizes.proofs.offsets_hold.Goals as goal

pub returns : goal.returns
returns c = offsets_hold
