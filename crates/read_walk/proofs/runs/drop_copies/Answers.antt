use Rattle.read_walk.specs.LevelRuns.{runs_left}
use Rattle.read_walk.proofs.Filling.{copies_taken}
use Rattle.read_walk.proofs.runs.drop_copies.Goals as goal

pub returns-clause-left : goal.returns-clause-left
unfolding runs_left
returns-clause-left c =
    let s = c.args.levels.now in
    copies_taken s.runs.num_bits s.left s.copies s.number s.standing _ c.args.count s.runs.values.now c.requires.within c.requires.is.within
