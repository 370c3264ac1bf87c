use Rattle.columns_slots.proofs.Nulls.{nulls_masked}
use Rattle.columns_slots.proofs.nulls_are_masked.Goals as goal

pub returns : goal.returns
returns c = nulls_masked
