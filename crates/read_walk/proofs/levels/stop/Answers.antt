use Rattle.std.proofs.Common.{refl}
use Rattle.read_walk.specs.Levels.{levels_left}
use Rattle.read_walk.proofs.levels.stop.Goals as goal

pub returns-clause-none : goal.returns-clause-none
unfolding levels_left
returns-clause-none c = rw (c.stop_runs.ensures.none, c.stop_runs-2.ensures.none) refl
