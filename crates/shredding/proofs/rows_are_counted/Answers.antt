use Rattle.shredding.proofs.Counts.{counted}
use Rattle.shredding.proofs.rows_are_counted.Goals as goal

pub returns : goal.returns
returns c = counted
