use Rattle.pq_runs.proofs.Sound.{runs_read}
use Rattle.pq_runs.proofs.laws.runs_are_read.Goals as goal

pub returns : goal.returns
returns c = runs_read
