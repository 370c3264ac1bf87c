use Rattle.read_walk.specs.Pairs.{is_row}
use Rattle.read_walk.proofs.Counting.{ones-count}
use Rattle.read_walk.proofs.levels.begun_in.Goals as goal

pub returns : goal.returns
returns c = ones-count 64 c.at.result is_row c.args.reps.now c.at.type_inv c.requires c.at.ensures
