use Rattle.schema_file.proofs.Told.{all_told}
use Rattle.schema_file.proofs.laws.written_trees_are_told.Goals as goal

pub returns : goal.returns
returns c = all_told
