use Rattle.read_walk.proofs.Filling.{first_set}
use Rattle.read_walk.proofs.runs.take_some.Goals as goal

pub returns-then-levels-gt7-clause-left : goal.returns-then-levels-gt7-clause-left
returns-then-levels-gt7-clause-left c = rw (first_set c.args.out.now c.take_one.result c.requires.room) c.take_one.ensures.first
