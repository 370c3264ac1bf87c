use Rattle.pq_files.proofs.CarriedOnce.{are_unique}
use Rattle.pq_files.proofs.laws.files_are_unique.Goals as goal

pub returns : goal.returns
returns c = are_unique
