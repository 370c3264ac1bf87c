use Rattle.schema_map.proofs.Fields.{fitting_fields_agree}
use Rattle.schema_map.proofs.laws.fitting_fields_agree.Goals as goal

pub returns : goal.returns
returns c = fitting_fields_agree
