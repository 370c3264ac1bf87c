use Rattle.struct_iters.proofs.columns_iter.ColumnsIter.next.Goals as goal

pub returns-in-None-clause-gives : goal.returns-in-None-clause-gives
returns-in-None-clause-gives g c = λ above n t xs h. rw c.in-None.is at c.next_piece.ensures.gives above n t xs h

pub returns-in-Some-Ok-clause-gives : goal.returns-in-Some-Ok-clause-gives
returns-in-Some-Ok-clause-gives g c = λ above n t xs h. rw (c.in-Some-Ok.is, c.in-Some-Ok.field-0-is) at c.next_piece.ensures.gives above n t xs h

pub returns-in-Some-Err-clause-gives : goal.returns-in-Some-Err-clause-gives
returns-in-Some-Err-clause-gives g c = λ above n t xs h. rw (c.in-Some-Err.is, c.in-Some-Err.field-0-is) at c.next_piece.ensures.gives above n t xs h
