use Rattle.std.proofs.Common.{arith}
use Rattle.pq_delta_reads.proofs.Groups.{eight_put}
use Rattle.pq_delta_reads.proofs.bits.put_eight.Goals as goal

pub returns-clause-front : goal.returns-clause-front
returns-clause-front c = eight_put c.args.at c.args.numbers.now c.args.eight (omega (arith, c.requires)) (omega arith)
