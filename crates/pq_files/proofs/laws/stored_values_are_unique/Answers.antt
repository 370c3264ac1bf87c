use Rattle.pq_files.proofs.StoredOnce.{are_unique}
use Rattle.pq_files.proofs.laws.stored_values_are_unique.Goals as goal

pub returns : goal.returns
returns c = are_unique
