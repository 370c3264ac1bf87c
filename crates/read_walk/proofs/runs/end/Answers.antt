use Rattle.pq_runs.proofs.Items.{nothing_found, nothing_left}
use Rattle.read_walk.specs.LevelRuns.{runs_left}
use Rattle.read_walk.proofs.runs.end.Goals as goal

pub returns-clause-failed : goal.returns-clause-failed
unfolding runs_left
returns-clause-failed c = nothing_found _ _ _ _ _ _ _ c.requires.none c.requires.some c.requires.run

pub returns-clause-ended : goal.returns-clause-ended
unfolding runs_left
returns-clause-ended c = nothing_left _ _ _ _ _ _ c.requires.none
