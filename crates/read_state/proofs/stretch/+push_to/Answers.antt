use Rattle.std.proofs.Common.{◌+◌, refl, sym, ◌∙◌}
use Rattle.std.proofs.lemmas.Result.{on_ok_weaker}
use Rattle.read_state.proofs.Push.{none, pass, push}
use Rattle.read_state.proofs.stretch.+push_to.Goals as goal

pub returns-in_default-clause-ok : goal.returns-in_default-clause-ok
returns-in_default-clause-ok g t c = none c.args.count c.args.rep c.args.level c.args.hidden c.args.depth c.args.def c.args.parts.now c.in_default.ensures.cases

pub returns-then-not-pushes-clause-ok : goal.returns-then-not-pushes-clause-ok
returns-then-not-pushes-clause-ok g t c =
    on_ok_weaker c.push_to.result (λ e. pass c.args.count c.args.rep c.args.level c.args.hidden c.args.depth c.args.def c.in-Some.part.now c.in-Some.rest.now c.args.parts.now c.push_to.new.parts (c.args.depth + c.bit.result) (c.args.def + (c.bit-2.result + c.bit-3.result)) c.in-Some.ensures.cases.0 (sym c.pushes.ensures ∙ c.if-not-pushes.true) (rw (c.bit.ensures, c.is_repeated-repeated.ensures) refl) (rw (c.bit-2.ensures, c.is_nullable-nullable.ensures, c.bit-3.ensures, c.is_repeated-repeated.ensures) refl) e) c.push_to.ensures.ok

pub returns-clause-ok : goal.returns-clause-ok
returns-clause-ok g t c =
    let pushed' = c.in_ok-push_run.ensures.ok in
    on_ok_weaker c.push_to-2.result (λ e. push c.args.count c.args.rep c.args.level c.args.hidden c.args.depth c.args.def c.in-Some.part.now c.push_run.new.self c.in-Some.rest.now c.args.parts.now c.push_to-2.new.parts (c.args.depth + c.bit.result) (c.args.def + (c.bit-2.result + c.bit-3.result)) c.first_of-first.result c.pushes-grows.result c.both-is_there.result c.both-hides.result
    c.in-Some.ensures.cases.0
    (sym c.pushes.ensures ∙ c.if-not-pushes.false)
    (rw (c.bit.ensures, c.is_repeated-repeated.ensures) refl)
    (rw (c.bit-2.ensures, c.is_nullable-nullable.ensures, c.bit-3.ensures, c.is_repeated-repeated.ensures) refl)
    (λ l. c.first_of-first.ensures.is (c.is_repeated-repeated.ensures ∙ l))
    c.pushes-grows.ensures
    (rw (c.both-is_there.ensures, c.is_nullable-nullable.ensures) refl)
    (rw (c.both-hides.ensures, c.is_required-required.ensures) refl)
    pushed'
    e) c.push_to-2.ensures.ok
