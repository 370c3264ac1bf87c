use Rattle.pq_runs.proofs.WrittenDeltas.{written_deltas}
use Rattle.pq_runs.proofs.laws.written_deltas_are_deltas.Goals as goal

pub returns : goal.returns
returns c = written_deltas
