use Rattle.typed_groups.proofs.Wide.{taken}
use Rattle.typed_groups.proofs.laws.suiting_chunks_are_taken.Goals as goal

pub returns : goal.returns
returns c = taken c.paths_are_seen.ensures c.typed_columns_are_own.ensures c.typed_slots_are_read.ensures
