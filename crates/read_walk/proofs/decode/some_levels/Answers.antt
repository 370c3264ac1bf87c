use Rattle.std.proofs.Common.{arith}
use Rattle.read_walk.proofs.Mixing.{part-of}
use Rattle.read_walk.proofs.decode.some_levels.Goals as goal

pub returns-clause-parts : goal.returns-clause-parts
returns-clause-parts c = part-of c.args.levels.now c.args.at c.min-count.result (omega (arith, c.min-count.ensures, c.requires))
