use Rattle.std.proofs.Common.{◌-◌, map, refl, arith}
use Rattle.std.proofs.lemmas.Result.{err_from_is_err_and}
use Rattle.columns_core.specs.View.{field_view}
use Rattle.schema_codec.specs.Reading.{type_at, field_at, tag_at, parts_with}
use Rattle.schema_codec.proofs.Turns.{type_at-below, bind_fails}
use Rattle.schema_codec.proofs.Loops.{items_begin, items_go_on, items_fail, items_end, map_more}
use Rattle.schema_codec.proofs.reading.+read.Goals as goal

pub take_some_fields-fields-init : goal.take_some_fields-fields-init
take_some_fields-fields-init t c = rw c.new-fields.ensures.items (items_begin (field_at c.args.depth) c.args.count c.args.bytes.now)

pub take_some_fields-returns-in_err-field : goal.take_some_fields-returns-in_err-field
take_some_fields-returns-in_err-field t c =
    let p = err_from_is_err_and c.from_residual.result c.from_residual.ensures.1 in
    rw (p.1, p.2) (items_fail c.in_err-field.field-0.0 (field_at c.args.depth) (map field_view c.fields.fields.items) c.args.count c.fields.counter c.fields.rest.now _ c.fields-test.true c.in_err-field.ensures c.fields.invariant)

pub take_some_fields-fields-preserved : goal.take_some_fields-fields-preserved
take_some_fields-fields-preserved t c =
    let went_on = items_go_on (field_at c.args.depth) (map field_view c.fields.fields.items) c.args.count c.fields.counter c.fields.rest.now (field_view c.in_ok-field.field) c.in_ok-field.after.now _ c.fields-test.true c.in_ok-field.ensures c.fields.invariant in
    rw (c.in_ok-push.ensures.items, map_more field_view c.fields.fields.items c.in_ok-field.field) went_on

pub take_some_fields-returns : goal.take_some_fields-returns
take_some_fields-returns t c = items_end (field_at c.args.depth) (map field_view c.fields.fields.items) c.args.count c.fields.counter c.fields.rest.now _ c.fields-test.false c.fields.invariant

pub take_type-returns-then-depth-eq0 : goal.take_type-returns-then-depth-eq0
unfolding type_at
take_type-returns-then-depth-eq0 t c = rw c.if-depth-eq0.true refl

pub take_type-returns-in_err-tag : goal.take_type-returns-in_err-tag
take_type-returns-in_err-tag t c =
    let p = err_from_is_err_and c.from_residual.result c.from_residual.ensures.1 in
    rw (p.1, p.2, type_at-below c.args.depth c.args.bytes.now (omega arith)) (bind_fails c.in_err-tag.field-0.0 (tag_at c.args.bytes.now) (λ tag. parts_with (type_at (c.args.depth - 1)) tag.0 tag.1) c.in_err-tag.ensures)

pub take_type-returns : goal.take_type-returns
take_type-returns t c = rw (type_at-below c.args.depth c.args.bytes.now (omega arith), c.in_ok-tag.ensures) c.take_parts.ensures
