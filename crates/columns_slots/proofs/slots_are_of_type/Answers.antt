use Rattle.columns_slots.proofs.OfType.{slots_of_type}
use Rattle.columns_slots.proofs.slots_are_of_type.Goals as goal

pub returns : goal.returns
returns c = slots_of_type
