use Rattle.sample_sizes.proofs.Claims.{few_pairs_are_claimed}
use Rattle.sample_sizes.proofs.few_pairs_are_claimed.Goals as goal

pub returns : goal.returns
returns c = few_pairs_are_claimed
