use Rattle.schema_map.proofs.Fields.{written_fields_fit}
use Rattle.schema_map.proofs.laws.written_fields_fit.Goals as goal

pub returns : goal.returns
returns c = written_fields_fit
