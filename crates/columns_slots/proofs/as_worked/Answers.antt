use Rattle.columns_slots.proofs.Worked.{worked}
use Rattle.columns_slots.proofs.as_worked.Goals as goal

pub returns : goal.returns
returns c = worked
