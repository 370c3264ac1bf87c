use Rattle.unique_rows.proofs.Unique.{rows_are_unique}
use Rattle.unique_rows.proofs.rows_are_unique.Goals as goal

pub returns : goal.returns
returns c = rows_are_unique
