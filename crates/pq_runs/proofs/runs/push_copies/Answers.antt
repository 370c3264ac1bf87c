use Rattle.pq_runs.proofs.Steps.{below_whole}
use Rattle.pq_runs.proofs.runs.push_copies.Goals as goal

pub push_whole_bytes-requires : goal.push_whole_bytes-requires
push_whole_bytes-requires c = rw c.from.ensures (below_whole c.args.width c.args.number c.requires.below)
