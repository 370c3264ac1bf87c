use Rattle.read_walk.specs.LevelRuns.{runs_left}
use Rattle.pq_runs.proofs.Items.{begin_zeros, begin_runs}
use Rattle.read_walk.proofs.runs.level_runs.Goals as goal
use Rattle.read_walk.proofs.runs.level_runs.Goals.{then-width-eq0, else-width-eq0}

pub returns-clause-left : goal.returns-clause-left
unfolding runs_left
returns-clause-left c = rw (c.new.ensures.values, c.new.ensures.bits) (elim c.if-width-eq0.branch [
  | then-width-eq0 w ↦ begin_zeros c.args.width c.args.count 0 c.if-width-eq0.result c.args.section.now w.if-width-eq0.true w.result-is
  | else-width-eq0 w ↦ begin_runs c.args.width c.args.count 0 c.if-width-eq0.result c.args.section.now w.if-width-eq0.false w.result-is
])
