use Rattle.read_walk.proofs.page.NestedPageIterator.next.Goals as goal

pub returns-in-Some-Err-clause-steps : goal.returns-in-Some-Err-clause-steps
returns-in-Some-Err-clause-steps c =
    let h = rw c.in-Some-Err.field-0-is at c.in-Some-Err.ensures in
    rw (h.0, h.2) h.1
