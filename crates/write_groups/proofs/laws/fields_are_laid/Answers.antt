use Rattle.write_groups.proofs.FieldLaid.{field_laid}
use Rattle.write_groups.proofs.laws.fields_are_laid.Goals as goal

pub returns : goal.returns
returns c = field_laid
