use Rattle.std.proofs.Common.{arith}
use Rattle.pq_runs.proofs.Paired.{fours_are}
use Rattle.pq_runs.proofs.group.fours_of.Goals as goal

pub returns : goal.returns
returns c = λ xs size below is. fours_are c.args.width c.args.pairs c.to_le_bytes.result xs c.from_le_bytes-first.result c.from_le_bytes-second.result c.requires.fits size below is c.to_le_bytes.ensures (omega (arith, c.from_le_bytes-first.ensures)) (omega (arith, c.from_le_bytes-second.ensures))
