use Rattle.sample_sizes.proofs.Large.{no_decimal_is_wide}
use Rattle.sample_sizes.proofs.no_decimal_is_wide.Goals as goal

pub returns : goal.returns
returns c = no_decimal_is_wide
