use Rattle.std.proofs.Common.{refl}
use Rattle.read_walk.specs.LevelRuns.{runs_left}
use Rattle.read_walk.proofs.runs.copied.Goals as goal

pub returns-clause-left : goal.returns-clause-left
unfolding runs_left
returns-clause-left c = rw (c.new.ensures.values, c.new.ensures.bits) refl
