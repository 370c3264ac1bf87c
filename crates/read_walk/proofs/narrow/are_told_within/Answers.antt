use Rattle.std.proofs.Common.{arith}
use Rattle.read_walk.proofs.Folding.{all-to}
use Rattle.read_walk.proofs.narrow.are_told_within.Goals as goal

pub returns : goal.returns
returns c e k h = all-to c.args.levels.now c.args.max c.to.result k c.requires c.to.ensures e (omega (arith, h, c.requires))
