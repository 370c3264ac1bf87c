use Rattle.std.proofs.Common.{inr, sym, ◌∙◌}
use Rattle.std.proofs.lemmas.Result.{IfErr-weaker, IfOk-weaker}
use Rattle.read_column.proofs.Placing.{bits-end, holds-bits, holds-own}
use Rattle.read_column.proofs.entries.read_entries.Goals as goal

pub returns-then-not-stands_in_bytes-clause-ok : goal.returns-then-not-stands_in_bytes-clause-ok
returns-then-not-stands_in_bytes-clause-ok g c =
    let own = sym c.stands_in_bytes.ensures.value ∙ c.if-not-stands_in_bytes.true in
    IfOk-weaker c.count_bits.result _ _ (λ texts few. holds-bits _ c.args.body.now texts c.args.count own (c.stands_in_bytes.ensures.bits c.if-not-stands_in_bytes.true c.args.body.now) few) c.count_bits.ensures.ok

pub returns-then-not-stands_in_bytes-clause-err : goal.returns-then-not-stands_in_bytes-clause-err
returns-then-not-stands_in_bytes-clause-err g c =
    IfErr-weaker c.count_bits.result _ _ (λ e why. inr (bits-end _ c.args.body.now c.args.count e (c.stands_in_bytes.ensures.bits c.if-not-stands_in_bytes.true c.args.body.now) why)) c.count_bits.ensures.err

pub returns-clause-ok : goal.returns-clause-ok
returns-clause-ok g c =
    let own = sym c.stands_in_bytes.ensures.value ∙ c.if-not-stands_in_bytes.false in
    IfOk-weaker c.entries_at.result _ _ (λ texts is. rw is (holds-own _ c.args.body.now c.in-Ok.places.items c.args.count own c.in-Ok.ensures.ok)) c.entries_at.ensures.ok
