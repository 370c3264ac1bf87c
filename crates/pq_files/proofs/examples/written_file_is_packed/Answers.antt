use Rattle.pq_files.proofs.WrittenExample.{is_packed}
use Rattle.pq_files.proofs.examples.written_file_is_packed.Goals as goal

pub returns : goal.returns
returns c = is_packed
