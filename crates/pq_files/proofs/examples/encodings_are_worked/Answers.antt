use Rattle.pq_files.proofs.Worked.{are_worked}
use Rattle.pq_files.proofs.examples.encodings_are_worked.Goals as goal

pub returns : goal.returns
returns c = are_worked
