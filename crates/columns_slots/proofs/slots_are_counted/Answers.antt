use Rattle.columns_slots.proofs.Rows.{slots_counted}
use Rattle.columns_slots.proofs.slots_are_counted.Goals as goal

pub returns : goal.returns
returns c = slots_counted
