use Rattle.read_walk.proofs.take.push_next.Goals as goal

pub returns-then-told-clause-ok : goal.returns-then-told-clause-ok
returns-then-told-clause-ok g c = rw c.if-told.true c.push_block.ensures.ok

pub returns-then-told-clause-err : goal.returns-then-told-clause-err
returns-then-told-clause-err g c = rw c.if-told.true c.push_block.ensures.err
