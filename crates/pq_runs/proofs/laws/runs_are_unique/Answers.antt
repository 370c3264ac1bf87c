use Rattle.pq_runs.proofs.Complete.{unique}
use Rattle.pq_runs.proofs.laws.runs_are_unique.Goals as goal

pub returns : goal.returns
returns c = unique
