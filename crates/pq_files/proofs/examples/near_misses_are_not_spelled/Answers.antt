use Rattle.pq_files.proofs.Worked.{are_not_spelled}
use Rattle.pq_files.proofs.examples.near_misses_are_not_spelled.Goals as goal

pub returns : goal.returns
returns c = are_not_spelled
