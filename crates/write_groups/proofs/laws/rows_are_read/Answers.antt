use Rattle.write_groups.proofs.ReadRows.{rows_read}
use Rattle.write_groups.proofs.laws.rows_are_read.Goals as goal

pub returns : goal.returns
returns c = rows_read c.typed_slots_are_read.ensures
