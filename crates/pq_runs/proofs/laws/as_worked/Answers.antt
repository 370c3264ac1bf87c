use Rattle.pq_runs.proofs.Examples.{are_worked}
use Rattle.pq_runs.proofs.laws.as_worked.Goals as goal

pub returns : goal.returns
returns c = are_worked
