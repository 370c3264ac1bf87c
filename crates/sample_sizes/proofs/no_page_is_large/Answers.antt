use Rattle.sample_sizes.proofs.Large.{no_page_is_large}
use Rattle.sample_sizes.proofs.no_page_is_large.Goals as goal

pub returns : goal.returns
returns c = no_page_is_large
