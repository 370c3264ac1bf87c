use Rattle.pq_runs.proofs.SpreadBits.{spread_of}
use Rattle.pq_runs.proofs.words.spread.Goals as goal

pub returns : goal.returns
returns c = spread_of c.args.bits c.requires
