use Rattle.pq_runs.specs.State.{items}
use Rattle.pq_runs.proofs.Items.{nothing_found, nothing_left}
use Rattle.pq_runs.proofs.state.fail.Goals as goal

pub returns-clause-failed : goal.returns-clause-failed
unfolding items
returns-clause-failed c = nothing_found _ _ _ _ _ _ _ c.requires.none c.requires.some c.requires.run

pub returns-clause-ended : goal.returns-clause-ended
unfolding items
returns-clause-ended c = nothing_left _ _ _ _ _ _ c.requires.none
