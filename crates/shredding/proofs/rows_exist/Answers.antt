use Rattle.shredding.proofs.Exist.{rows_exist}
use Rattle.shredding.proofs.rows_exist.Goals as goal

pub returns : goal.returns
returns c = rows_exist
