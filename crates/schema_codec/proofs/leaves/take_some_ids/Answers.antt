use Rattle.std.proofs.Common.{to_z-of_z, w32, SFits, rules}
use Rattle.std.proofs.lemmas.Result.{err_from_is_err_and}
use Rattle.schema_codec.specs.Reading.{id_at}
use Rattle.schema_codec.proofs.Loops.{items_begin, items_go_on, items_fail, items_end}
use Rattle.schema_codec.proofs.leaves.take_some_ids.Goals as goal

pub ids-init : goal.ids-init
ids-init c = rw c.new-ids.ensures.items (items_begin id_at c.args.count c.args.bytes.now)

pub returns-in_err-id : goal.returns-in_err-id
returns-in_err-id c =
    let p = err_from_is_err_and c.from_residual.result c.from_residual.ensures.1 in
    rw (p.1, p.2) (items_fail c.in_err-id.field-0.0 id_at c.ids.ids.items c.args.count c.ids.counter c.ids.rest.now _ c.ids-test.true c.in_err-id.ensures c.ids.invariant)

pub ids-preserved : goal.ids-preserved
ids-preserved c =
    let fits : SFits w32 c.in_ok-id.id = search rules in
    let went_on = items_go_on id_at c.ids.ids.items c.args.count c.ids.counter c.ids.rest.now c.in_ok-id.id c.in_ok-id.after.now _ c.ids-test.true c.in_ok-id.ensures c.ids.invariant in
    rw c.in_ok-push.ensures.items (simp to_z-of_z went_on)

pub returns : goal.returns
returns c = items_end id_at c.ids.ids.items c.args.count c.ids.counter c.ids.rest.now _ c.ids-test.false c.ids.invariant
