use Rattle.std.proofs.Common.{sym, subst}
use Rattle.struct_iters.specs.Progress.{IsAt}
use Rattle.struct_iters.proofs.pieces.next_of.Goals as goal

pub returns-in-None-clause-gives : goal.returns-in-None-clause-gives
returns-in-None-clause-gives g c = λ x at.
    let reads = subst (IsAt x) (sym c.in-Some.ensures.value) at in
    (rw c.in-None.is at c.next_piece.ensures x.opening x.type x.given reads, c.in-Some.ensures.after)

pub returns-in-Some-Err-clause-gives : goal.returns-in-Some-Err-clause-gives
returns-in-Some-Err-clause-gives g c = λ x at.
    let reads = subst (IsAt x) (sym c.in-Some.ensures.value) at in
    rw (c.in-Some-Err.is, c.in-Some-Err.field-0-is) at c.next_piece.ensures x.opening x.type x.given reads

pub returns-in-Some-Ok-clause-gives : goal.returns-in-Some-Ok-clause-gives
returns-in-Some-Ok-clause-gives g c = λ x at.
    let reads = subst (IsAt x) (sym c.in-Some.ensures.value) at in
    rw (c.in-Some-Ok.is, c.in-Some-Ok.field-0-is) at c.next_piece.ensures x.opening x.type x.given reads
