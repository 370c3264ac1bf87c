use Rattle.std.proofs.Common.{◌≡◌, min, refl, inr, arith}
use Rattle.pq_runs.proofs.Decoding.{value_size, run_copies, run_packed, enough_packed}
use Rattle.pq_runs.proofs.Fuel.{found_nothing}
use Rattle.pq_runs.proofs.whole.append_run.Goals as goal
use Rattle.pq_runs.proofs.whole.append_run.Goals.{then-count-left, else-count-left}

pub returns-in-None-clause-err : goal.returns-in-None-clause-err
returns-in-None-clause-err c = inr (refl, found_nothing c.args.width c.args.left c.args.bytes.now c.requires.called c.in-None.ensures.gives)

pub whole_number-requires : goal.whole_number-requires
whole_number-requires c = value_size c.args.width c.in-Some-Repeated-default.count c.args.bytes.now c.in-Some-Repeated-default.value.now c.in-Some-Repeated-default.rest.now c.requires.fits (rw c.in-Some-Repeated-default.field-0-0-is at c.in-Some-Repeated-default.ensures.gives)

pub returns-in_ok-push_copies-in-Some-Repeated-default-clause-ok : goal.returns-in_ok-push_copies-in-Some-Repeated-default-clause-ok
returns-in_ok-push_copies-in-Some-Repeated-default-clause-ok c =
    let r = rw c.in-Some-Repeated-default.field-0-0-is at c.in-Some-Repeated-default.ensures.gives in
    let k : c.if-count-left.count ≡ min c.in-Some-Repeated-default.count c.args.left = elim c.if-count-left.branch [ then-count-left w ↦ omega arith | else-count-left w ↦ omega arith ] in
    run_copies c.args.width c.args.left c.in-Some-Repeated-default.count c.if-count-left.count c.whole_number.result c.args.numbers.now.items c.push_copies.new.numbers.items c.args.bytes.now c.in-Some-Repeated-default.value.now c.in-Some-Repeated-default.rest.now c.requires.called r k c.whole_number.ensures c.in_ok-push_copies-in-Some-Repeated-default.ensures.ok

pub push_unpacked-requires-clause-enough : goal.push_unpacked-requires-clause-enough
push_unpacked-requires-clause-enough c = enough_packed c.args.width c.args.left c.standing.result c.in-Some-Packed-default.body.now c.standing.ensures

pub returns-in_ok-push_unpacked-in-Some-Packed-default-clause-ok : goal.returns-in_ok-push_unpacked-in-Some-Packed-default-clause-ok
returns-in_ok-push_unpacked-in-Some-Packed-default-clause-ok c =
    let r = rw c.in-Some-Packed-default.field-0-0-is at c.in-Some-Packed-default.ensures.gives in
    run_packed c.args.width c.args.left c.standing.result c.args.numbers.now.items c.push_unpacked.new.numbers.items c.args.bytes.now c.in-Some-Packed-default.body.now c.in-Some-Packed-default.rest.now c.requires.some c.requires.called r c.standing.ensures c.in_ok-push_unpacked-in-Some-Packed-default.ensures.ok
