use Rattle.shredding.proofs.Schema.{schema_unique}
use Rattle.shredding.proofs.schema_rows_are_unique.Goals as goal

pub returns : goal.returns
returns c = schema_unique
