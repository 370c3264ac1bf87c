use Rattle.std.proofs.Common.{inl}
use Rattle.read_walk.proofs.Filling.{no-header}
use Rattle.read_walk.proofs.runs.next_run.Goals as goal

pub returns-in-None-clause-gives : goal.returns-in-None-clause-gives
returns-in-None-clause-gives c = inl (no-header c.args.runs.now.values.now c.in-None.ensures.steps.0)
