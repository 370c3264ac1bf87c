use Rattle.read_walk.specs.Pairs.{is_row}
use Rattle.read_walk.proofs.Counting.{ones-count}
use Rattle.read_walk.proofs.folds.count_zeros.Goals as goal

pub returns-then-reps-eq64 : goal.returns-then-reps-eq64
returns-then-reps-eq64 c = ones-count 64 c.levels_at.result is_row c.args.reps.now c.levels_at.type_inv c.if-reps-eq64.true c.levels_at.ensures
