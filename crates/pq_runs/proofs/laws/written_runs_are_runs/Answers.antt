use Rattle.pq_runs.proofs.WrittenLaws.{written_runs}
use Rattle.pq_runs.proofs.laws.written_runs_are_runs.Goals as goal

pub returns : goal.returns
returns c = written_runs
