use Rattle.pq_files.proofs.NearFiles.{are_not_carried}
use Rattle.pq_files.proofs.examples.near_misses_are_not_carried.Goals as goal

pub returns : goal.returns
returns c = are_not_carried
