use Rattle.nested_slice.proofs.Worked.{worked}
use Rattle.nested_slice.proofs.laws.as_worked.Goals as goal

pub returns : goal.returns
returns c = worked
