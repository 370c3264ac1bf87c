use Rattle.std.proofs.Common.{arith, ◌%◌, ◌==◌}
use Rattle.read_leaf.proofs.BitRuns.{bits_alike}
use Rattle.read_leaf.proofs.set_bits.first_run.Goals as goal

pub returns-clause-alike : goal.returns-clause-alike
returns-clause-alike c = bits_alike c.min.result c.args.word (c.args.word % 2 == 1) (λ i h. c.lowest_run.ensures.alike i (omega (arith, h)))
