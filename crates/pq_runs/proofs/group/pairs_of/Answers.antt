use Rattle.std.proofs.Common.{arith}
use Rattle.pq_runs.proofs.Paired.{pairs_are}
use Rattle.pq_runs.proofs.group.pairs_of.Goals as goal

pub returns : goal.returns
returns c = pairs_are c.args.width c.args.numbers c.from_le_bytes-first.result c.from_le_bytes-second.result c.requires.fits (omega arith) c.requires.below (omega (arith, c.from_le_bytes-first.ensures)) (omega (arith, c.from_le_bytes-second.ensures))
