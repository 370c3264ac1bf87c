use Rattle.std.proofs.Common.{arith}
use Rattle.pq_runs.proofs.BitNumbers.{mixed_bits}
use Rattle.pq_runs.proofs.words.are_mixed_bits.Goals as goal

pub returns-then-are_bits : goal.returns-then-are_bits
returns-then-are_bits c = λ is low. omega (arith, mixed_bits low c.args.word c.args.count c.lower_bits-changes.result c.requires.some c.lower_bits-changes.ensures)

pub returns : goal.returns
returns c = λ is low. omega (arith, mixed_bits low c.args.word c.args.count c.lower_bits-changes.result c.requires.some c.lower_bits-changes.ensures)
