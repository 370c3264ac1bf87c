use Rattle.std.proofs.Common.{subst, sym}
use Rattle.dictionary_iters.specs.Iters.{IsGivingDictionaries}
use Rattle.dictionary_iters.proofs.dict_iter.DictIter.next.Goals as goal

pub returns-in-None-clause-gives : goal.returns-in-None-clause-gives
returns-in-None-clause-gives g c = λ o t pieces given.
    let reads = subst (IsGivingDictionaries o t pieces) (sym c.in-Some.ensures.value) given in
    rw c.in-None.is at c.next_piece.ensures o t pieces reads

pub returns-in-Some-Err-clause-gives : goal.returns-in-Some-Err-clause-gives
returns-in-Some-Err-clause-gives g c = λ o t pieces given.
    let reads = subst (IsGivingDictionaries o t pieces) (sym c.in-Some.ensures.value) given in
    rw (c.in-Some-Err.is, c.in-Some-Err.field-0-is) at c.next_piece.ensures o t pieces reads

pub returns-in-Some-Ok-clause-gives : goal.returns-in-Some-Ok-clause-gives
returns-in-Some-Ok-clause-gives g c = λ o t pieces given.
    let reads = subst (IsGivingDictionaries o t pieces) (sym c.in-Some.ensures.value) given in
    rw (c.in-Some-Ok.is, c.in-Some-Ok.field-0-is) at c.next_piece.ensures o t pieces reads
