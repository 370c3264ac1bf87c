use Rattle.shredding.proofs.Unique.{unique}
use Rattle.shredding.proofs.rows_are_unique.Goals as goal

pub returns : goal.returns
returns c = unique
