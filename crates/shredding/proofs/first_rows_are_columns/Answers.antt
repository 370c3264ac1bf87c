use Rattle.shredding.proofs.FirstRows.{first_rows_are_columns}
use Rattle.shredding.proofs.first_rows_are_columns.Goals as goal

pub returns : goal.returns
returns c = first_rows_are_columns
