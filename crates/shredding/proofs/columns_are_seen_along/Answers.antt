use Rattle.shredding.proofs.Along.{seen_along}
use Rattle.shredding.proofs.columns_are_seen_along.Goals as goal

pub returns : goal.returns
returns c = seen_along
