use Rattle.std.proofs.Common.{◌-◌, map, refl, arith}
use Rattle.std.proofs.lemmas.Result.{err_from_is_err_and}
use Rattle.columns_core.specs.View.{field_view}
use Rattle.schema_codec.proofs.Turns.{bind_fails}
use Rattle.schema_codec.proofs.Loops.{map_more}
use Rattle.schema_fb.specs.Places.{table_at, spend}
use Rattle.schema_fb.specs.Reading.{field_at}
use Rattle.schema_fb.specs.Steps.{field_in}
use Rattle.schema_fb.proofs.Loops.{items_begin, items_go_on, items_fail, items_end}
use Rattle.schema_fb.proofs.Turns.{opened, field_at-below}
use Rattle.schema_fb.proofs.fields.+read.Goals as goal

pub field_at-returns-then-depth-eq0 : goal.field_at-returns-then-depth-eq0
unfolding field_at
field_at-returns-then-depth-eq0 t c = rw c.if-depth-eq0.true refl

pub field_at-returns-in_err-table : goal.field_at-returns-in_err-table
field_at-returns-in_err-table t c =
    let p = err_from_is_err_and c.from_residual.result c.from_residual.ensures.1 in
    rw (p.1, p.2, field_at-below c.args.bytes.now c.args.depth c.args.place c.args.left (omega arith)) (bind_fails c.in_err-table.field-0.0 (table_at c.args.bytes.now c.args.place) (opened c.args.bytes.now (c.args.depth - 1) c.args.left) c.in_err-table.ensures)

pub field_at-returns-in_err-rest : goal.field_at-returns-in_err-rest
field_at-returns-in_err-rest t c =
    let p = err_from_is_err_and c.from_residual-in_err-rest.result c.from_residual-in_err-rest.ensures.1 in
    rw (p.1, p.2, field_at-below c.args.bytes.now c.args.depth c.args.place c.args.left (omega arith), c.in_ok-table.ensures) (bind_fails c.in_err-rest.field-0.0 (spend 1 c.args.left) (λ rest. field_in (field_at c.args.bytes.now (c.args.depth - 1)) c.args.bytes.now c.in_ok-table.table rest) c.in_err-rest.ensures)

pub field_at-returns : goal.field_at-returns
field_at-returns t c = rw (field_at-below c.args.bytes.now c.args.depth c.args.place c.args.left (omega arith), c.in_ok-table.ensures, c.in_ok-rest.ensures) c.field_in.ensures

pub fields_at-fields-init : goal.fields_at-fields-init
fields_at-fields-init t c = rw c.new-fields.ensures.items (items_begin (field_at c.args.bytes.now c.args.depth) c.args.bytes.now c.args.count c.args.place c.args.left)

pub fields_at-returns-in_err-field : goal.fields_at-returns-in_err-field
fields_at-returns-in_err-field t c =
    let p = err_from_is_err_and c.from_residual.result c.from_residual.ensures.1 in
    rw (p.1, p.2) (items_fail c.in_err-field.field-0.0 (field_at c.args.bytes.now c.args.depth) c.args.bytes.now (map field_view c.fields.fields.items) c.args.count c.fields.counter c.fields.at c.fields.rest _ c.fields-test.true c.in_err-field.ensures.gives c.fields.invariant)

pub fields_at-fields-preserved : goal.fields_at-fields-preserved
fields_at-fields-preserved t c =
    let went_on = items_go_on (field_at c.args.bytes.now c.args.depth) c.args.bytes.now (map field_view c.fields.fields.items) c.args.count c.fields.counter c.fields.at c.fields.rest (field_view c.in_ok-field.field) c.in_ok-field.after _ c.fields-test.true c.in_ok-field.ensures.gives c.fields.invariant in
    rw (c.in_ok-push.ensures.items, map_more field_view c.fields.fields.items c.in_ok-field.field) went_on

pub fields_at-returns : goal.fields_at-returns
fields_at-returns t c = items_end (field_at c.args.bytes.now c.args.depth) c.args.bytes.now (map field_view c.fields.fields.items) c.args.count c.fields.counter c.fields.at c.fields.rest _ c.fields-test.false c.fields.invariant
