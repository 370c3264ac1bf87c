use Rattle.read_walk.proofs.runs.take_one.Goals as goal

pub returns-clause-first : goal.returns-clause-first
returns-clause-first c = rw c.number_at-number.ensures c.drop_packed.ensures.left
