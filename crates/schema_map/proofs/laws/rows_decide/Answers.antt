use Rattle.schema_map.proofs.Fields.{rows_decide}
use Rattle.schema_map.proofs.laws.rows_decide.Goals as goal

pub returns : goal.returns
returns c = rows_decide
