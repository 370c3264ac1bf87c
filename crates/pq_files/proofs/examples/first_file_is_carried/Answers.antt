use Rattle.pq_files.proofs.FirstFile.{is_carried}
use Rattle.pq_files.proofs.examples.first_file_is_carried.Goals as goal

pub returns : goal.returns
returns c = is_carried
