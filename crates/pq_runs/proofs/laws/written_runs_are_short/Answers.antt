use Rattle.pq_runs.proofs.WrittenLaws.{written_short}
use Rattle.pq_runs.proofs.laws.written_runs_are_short.Goals as goal

pub returns : goal.returns
returns c = written_short
