use Rattle.schema_map.proofs.Fields.{written_schemas_fit}
use Rattle.schema_map.proofs.laws.written_schemas_fit.Goals as goal

pub returns : goal.returns
returns c = written_schemas_fit
