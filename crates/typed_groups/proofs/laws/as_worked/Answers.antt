use Rattle.typed_groups.proofs.Worked.{worked}
use Rattle.typed_groups.proofs.laws.as_worked.Goals as goal

pub returns : goal.returns
returns c = worked
