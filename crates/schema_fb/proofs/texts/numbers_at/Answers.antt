use Rattle.std.proofs.Common.{to_z-of_z, w32, SFits, rules}
use Rattle.std.proofs.lemmas.Result.{err_from_is_err_and}
use Rattle.schema_fb.proofs.Loops.{numbers_begin, numbers_go_on, numbers_fail, numbers_end}
use Rattle.schema_fb.proofs.texts.numbers_at.Goals as goal

pub ids-init : goal.ids-init
ids-init c = rw c.new-ids.ensures.items (numbers_begin c.args.bytes.now c.args.count c.args.place)

pub returns-in_err-id : goal.returns-in_err-id
returns-in_err-id c =
    let p = err_from_is_err_and c.from_residual.result c.from_residual.ensures.1 in
    rw (p.1, p.2) (numbers_fail c.in_err-id.field-0.0 c.args.bytes.now c.ids.ids.items c.args.count c.ids.counter c.ids.at _ c.ids-test.true c.in_err-id.ensures.gives c.ids.invariant)

pub ids-preserved : goal.ids-preserved
ids-preserved c =
    let went_on = numbers_go_on c.args.bytes.now c.ids.ids.items c.args.count c.ids.counter c.ids.at c.in_ok-id.id _ c.ids-test.true c.in_ok-id.ensures.gives c.ids.invariant in
    let fits : SFits w32 c.cast_signed.result = search rules in
    rw c.in_ok-push.ensures.items (simp to_z-of_z (rw c.cast_signed.ensures went_on))

pub returns : goal.returns
returns c = numbers_end c.args.bytes.now c.ids.ids.items c.args.count c.ids.counter c.ids.at _ c.ids-test.false c.ids.invariant
