use Rattle.pq_files.proofs.WrittenFile.{is_packed}
use Rattle.pq_files.proofs.laws.written_files_are_packed.Goals as goal

pub returns : goal.returns
returns c = is_packed
