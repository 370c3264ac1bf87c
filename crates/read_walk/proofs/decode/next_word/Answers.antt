use Rattle.read_walk.proofs.decode.next_word.Goals as goal

pub returns-then-told-clause-bits : goal.returns-then-told-clause-bits
returns-then-told-clause-bits c = rw c.if-told.true c.told_word.ensures.bits
