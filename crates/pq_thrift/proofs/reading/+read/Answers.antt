use Rattle.std.proofs.Common.{◌≡◌, ◌<◌, length, refl, rules, arith, Some, None, Ok, pos, SFits, w16, to_z, to_z-of_z}
use Rattle.std.proofs.lemmas.Result.{err_from_is_err_and}
use Rattle.pq_thrift.specs.Reading.{field_head_at, field_with, part_with, pair_with, value_at, struct_at, struct_with}
use Rattle.pq_thrift.proofs.Again.{value_at-below}
use Rattle.pq_thrift.proofs.Loops.{values_go_on, values_fail, values_end, pairs_go_on, pairs_fail, pairs_end, fields_begin, fields_go_on, head_fails, field_fails, fields_end}
use Rattle.pq_thrift.proofs.reading.+read.Goals as goal

pub take_values-returns-in_err-value-clause-gives : goal.take_values-returns-in_err-value-clause-gives
take_values-returns-in_err-value-clause-gives t c =
    let p = err_from_is_err_and c.from_residual.result c.from_residual.ensures.1 in
    rw (p.1, p.2) (values_fail c.in_err-value.field-0.0 (part_with (value_at c.args.depth) c.args.number) c.values.values.items c.args.count c.values.counter c.values.rest.now _ c.values-test.true c.in_err-value.ensures.gives c.values.invariant.1)

pub take_values-values-preserved : goal.take_values-values-preserved
take_values-values-preserved t c =
    let went_on = values_go_on (part_with (value_at c.args.depth) c.args.number) c.values.values.items c.args.count c.values.counter c.values.rest.now c.in_ok-value.value c.in_ok-value.after.now _ c.values-test.true c.in_ok-value.ensures.gives c.values.invariant.1 in
    (omega (arith, c.in_ok-value.ensures.no_longer, c.values.invariant.0), rw c.in_ok-push.ensures.items went_on)

pub take_values-returns-clause-gives : goal.take_values-returns-clause-gives
take_values-returns-clause-gives t c = values_end (part_with (value_at c.args.depth) c.args.number) c.values.values.items c.args.count c.values.counter c.values.rest.now _ c.values-test.false c.values.invariant.1

pub take_pairs-returns-in_err-pair-clause-gives : goal.take_pairs-returns-in_err-pair-clause-gives
take_pairs-returns-in_err-pair-clause-gives t c =
    let p = err_from_is_err_and c.from_residual.result c.from_residual.ensures.1 in
    rw (p.1, p.2) (pairs_fail c.in_err-pair.field-0.0 (pair_with (part_with (value_at c.args.depth) c.args.keys) (part_with (value_at c.args.depth) c.args.values)) c.pairs.pairs.items c.args.count c.pairs.counter c.pairs.rest.now _ c.pairs-test.true c.in_err-pair.ensures.gives c.pairs.invariant.1)

pub take_pairs-pairs-preserved : goal.take_pairs-pairs-preserved
take_pairs-pairs-preserved t c =
    let went_on = pairs_go_on (pair_with (part_with (value_at c.args.depth) c.args.keys) (part_with (value_at c.args.depth) c.args.values)) c.pairs.pairs.items c.args.count c.pairs.counter c.pairs.rest.now c.in_ok-pair.pair c.in_ok-pair.after.now _ c.pairs-test.true c.in_ok-pair.ensures.gives c.pairs.invariant.1 in
    (omega (arith, c.in_ok-pair.ensures.no_longer, c.pairs.invariant.0), rw c.in_ok-push.ensures.items went_on)

pub take_pairs-returns-clause-gives : goal.take_pairs-returns-clause-gives
take_pairs-returns-clause-gives t c = pairs_end (pair_with (part_with (value_at c.args.depth) c.args.keys) (part_with (value_at c.args.depth) c.args.values)) c.pairs.pairs.items c.args.count c.pairs.counter c.pairs.rest.now _ c.pairs-test.false c.pairs.invariant.1

pub take_struct-fields-init : goal.take_struct-fields-init
unfolding struct_with
take_struct-fields-init t c =
    let one = field_with (value_at c.args.depth) in
    (omega arith, rw c.new-fields.ensures.items (fields_begin one (pos 0) c.args.bytes.now))

pub take_struct-returns-in_err-head-clause-gives : goal.take_struct-returns-in_err-head-clause-gives
take_struct-returns-in_err-head-clause-gives t c =
    let p = err_from_is_err_and c.from_residual.result c.from_residual.ensures.1 in
    let one = field_with (value_at c.args.depth) in
    rw (p.1, p.2) (head_fails c.in_err-head.field-0.0 one c.fields.fields.items (to_z w16 c.fields.last-bits) c.fields.rest.now (struct_at c.args.depth c.args.bytes.now) c.in_err-head.ensures.gives c.fields.invariant.1)

pub take_struct-returns-in_default-clause-gives : goal.take_struct-returns-in_default-clause-gives
take_struct-returns-in_default-clause-gives t c =
    let one = field_with (value_at c.args.depth) in
    let head : field_head_at (to_z w16 c.fields.last-bits) c.fields.rest.now ≡ Ok (None, c.in_ok-head.after.now) = rw c.in_default.is at c.in_ok-head.ensures.gives in
    fields_end one c.fields.fields.items (to_z w16 c.fields.last-bits) c.fields.rest.now (struct_at c.args.depth c.args.bytes.now) c.in_ok-head.after.now head c.in_ok-head.ensures.shorter c.fields.invariant.1

pub take_struct-returns-in_err-value-clause-gives : goal.take_struct-returns-in_err-value-clause-gives
take_struct-returns-in_err-value-clause-gives t c =
    let p = err_from_is_err_and c.from_residual-in_err-value.result c.from_residual-in_err-value.ensures.1 in
    let one = field_with (value_at c.args.depth) in
    let head : field_head_at (to_z w16 c.fields.last-bits) c.fields.rest.now ≡ Ok (Some (c.in-Some.id, c.in-Some.kind), c.in_ok-head.after.now) = rw c.in-Some.is at c.in_ok-head.ensures.gives in
    rw (p.1, p.2) (field_fails c.in_err-value.field-0.0 one c.fields.fields.items (to_z w16 c.fields.last-bits) c.fields.rest.now (struct_at c.args.depth c.args.bytes.now) c.in-Some.id c.in-Some.kind c.in_ok-head.after.now head c.in_ok-head.ensures.shorter c.in_err-value.ensures.gives c.fields.invariant.1)

pub take_struct-fields-preserved : goal.take_struct-fields-preserved
take_struct-fields-preserved t c =
    let one = field_with (value_at c.args.depth) in
    let head : field_head_at (to_z w16 c.fields.last-bits) c.fields.rest.now ≡ Ok (Some (c.in-Some.id, c.in-Some.kind), c.in_ok-head.after.now) = rw c.in-Some.is at c.in_ok-head.ensures.gives in
    let fits : SFits w16 c.in-Some.id = search rules in
    let less : length c.in_ok-value.after.now < length c.fields.rest.now = omega (arith, c.in_ok-head.ensures.shorter, c.in_ok-value.ensures.no_longer) in
    let went_on = fields_go_on one c.fields.fields.items (to_z w16 c.fields.last-bits) c.fields.rest.now (struct_at c.args.depth c.args.bytes.now) c.in-Some.id c.in-Some.kind c.in_ok-head.after.now c.in_ok-value.value c.in_ok-value.after.now head c.in_ok-value.ensures.gives less c.fields.invariant.1 in
    (omega (arith, less, c.fields.invariant.0), rw c.in_ok-push.ensures.items (simp to_z-of_z went_on))

pub take_value-returns-then-depth-eq0-clause-gives : goal.take_value-returns-then-depth-eq0-clause-gives
unfolding value_at
take_value-returns-then-depth-eq0-clause-gives t c = rw c.if-depth-eq0.true refl

pub take_value-returns-clause-gives : goal.take_value-returns-clause-gives
take_value-returns-clause-gives t c = rw (value_at-below c.args.depth c.args.kind c.args.bytes.now (omega arith)) c.take_element.ensures.gives
