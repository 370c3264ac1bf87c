use Rattle.schema_map.proofs.Storing.{stored_by_rows}
use Rattle.schema_map.proofs.laws.rows_are_stored.Goals as goal

pub returns : goal.returns
returns c = stored_by_rows
