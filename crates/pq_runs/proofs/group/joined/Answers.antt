use Rattle.pq_runs.proofs.Paired.{joined_are}
use Rattle.pq_runs.proofs.group.joined.Goals as goal

pub returns : goal.returns
returns c = λ xs size below is. joined_are c.args.width c.args.fours xs c.requires.fits size below is
