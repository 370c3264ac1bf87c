use Rattle.std.proofs.Common.{[], ◌∷◌, Some, subst}
use Rattle.columns_array.specs.Boxed.{boxed}
use Rattle.assembly.specs.Giving.{Gives}
use Rattle.uses.proofs.Alone.{only_one}
use Rattle.uses.proofs.read.field_to_array.Goals as goal

pub returns-in-None-next-clause-ok : goal.returns-in-None-next-clause-ok
returns-in-None-next-clause-ok g c = λ o opens.
    let given = subst (λ r. Gives o [] (Some r) c.next.new.self) c.in-Some-Ok.field-0-is (c.in-Some-Ok.ensures o [] (c.in_ok-arrays.ensures.ok o opens)) in
    c.in-None-next.ensures o (boxed c.in-Some-Ok.array ∷ []) given.1

pub returns-in-Some-Err-clause-err : goal.returns-in-Some-Err-clause-err
returns-in-Some-Err-clause-err g c = λ o opens.
    subst (λ r. Gives o [] (Some r) c.next.new.self) c.in-Some-Err.field-0-is (c.in-Some-Err.ensures o [] (c.in_ok-arrays.ensures.ok o opens))

pub returns-in-Some-Err-next-clause-err : goal.returns-in-Some-Err-next-clause-err
returns-in-Some-Err-next-clause-err g c = λ o opens.
    let given = subst (λ r. Gives o [] (Some r) c.next.new.self) c.in-Some-Ok.field-0-is (c.in-Some-Ok.ensures o [] (c.in_ok-arrays.ensures.ok o opens)) in
    subst (λ r. Gives o (boxed c.in-Some-Ok.array ∷ []) (Some r) c.next-2.new.self) c.in-Some-Err-next.field-0-is (c.in-Some-Err-next.ensures o (boxed c.in-Some-Ok.array ∷ []) given.1)

pub returns-clause-err : goal.returns-clause-err
returns-clause-err g c = λ o opens.
    let given = subst (λ r. Gives o [] (Some r) c.next.new.self) c.in-Some-Ok.field-0-is (c.in-Some-Ok.ensures o [] (c.in_ok-arrays.ensures.ok o opens)) in
    let second = subst (λ r. Gives o (boxed c.in-Some-Ok.array ∷ []) (Some r) c.next-2.new.self) c.in-Some-Ok-next.field-0-is (c.in-Some-Ok-next.ensures o (boxed c.in-Some-Ok.array ∷ []) given.1) in
    absurd (only_one o (boxed c.in-Some-Ok.array) (boxed c.in-Some-Ok-next.field-0-0) opens.chunk_size_is given.0 second.0)
