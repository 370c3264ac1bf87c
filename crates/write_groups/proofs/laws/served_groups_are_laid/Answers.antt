use Rattle.write_groups.proofs.ServedLaid.{served_laid}
use Rattle.write_groups.proofs.laws.served_groups_are_laid.Goals as goal

pub returns : goal.returns
returns c = served_laid c.typed_columns_are_own.ensures c.typed_slots_are_read.ensures
