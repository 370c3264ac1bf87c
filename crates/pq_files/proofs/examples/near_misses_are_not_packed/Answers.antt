use Rattle.pq_files.proofs.NearFiles.{are_not_packed}
use Rattle.pq_files.proofs.examples.near_misses_are_not_packed.Goals as goal

pub returns : goal.returns
returns c = are_not_packed
