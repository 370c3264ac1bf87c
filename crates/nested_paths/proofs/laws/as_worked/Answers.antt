use Rattle.nested_paths.proofs.Worked.{worked}
use Rattle.nested_paths.proofs.laws.as_worked.Goals as goal

pub returns : goal.returns
returns c = worked
