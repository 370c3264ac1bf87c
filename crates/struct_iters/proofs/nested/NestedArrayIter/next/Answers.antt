use Rattle.struct_iters.proofs.nested.NestedArrayIter.next.Goals as goal

pub returns-in-Columns-clause-gives : goal.returns-in-Columns-clause-gives
returns-in-Columns-clause-gives g c = λ above n t xs h. c.next.ensures.gives above n t xs (rw c.in-Columns.is at h)

pub returns-in-Struct-clause-gives : goal.returns-in-Struct-clause-gives
returns-in-Struct-clause-gives g c = λ above n t xs h. c.next-in-Struct.ensures.gives above n t xs (rw c.in-Struct.is at h)
