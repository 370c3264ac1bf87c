use Rattle.shredding.proofs.Order.{columns_are_local}
use Rattle.shredding.proofs.columns_are_local.Goals as goal

pub returns : goal.returns
returns c = columns_are_local
