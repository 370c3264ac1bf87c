use Rattle.std.proofs.Common.{arith}
use Rattle.read_walk.specs.LevelRuns.{runs_left}
use Rattle.read_walk.proofs.Filling.{copies_taken}
use Rattle.read_walk.proofs.runs.take_copies.Goals as goal

pub returns-clause-left : goal.returns-clause-left
unfolding runs_left
returns-clause-left c =
    let s = c.args.levels.now in
    rw c.fill_front.ensures (copies_taken s.runs.num_bits s.left s.copies s.number s.standing _ c.min-count.result s.runs.values.now (omega (arith, c.min-count.ensures)) c.requires.is.within)
