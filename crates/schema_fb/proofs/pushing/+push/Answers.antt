use Rattle.std.proofs.Common.{◌∙◌}
use Rattle.std.proofs.lemmas.Result.{on_ok_weaker}
use Rattle.schema_fb.specs.Views.{cells_view, objects_view}
use Rattle.schema_fb.proofs.Lengths.{cells_count, objects_count}
use Rattle.schema_fb.proofs.Steps.{vector_pushed, table_pushed}
use Rattle.schema_fb.proofs.pushing.+push.Goals as goal

pub push_vector-returns : goal.push_vector-returns
push_vector-returns t c =
    let objects = c.args.objects.now in
    let many = c.len.ensures ∙ objects_count objects in
    let many' = c.len-2.ensures ∙ objects_count objects in
    on_ok_weaker c.push_objects.result
    (vector_pushed c.args.out.now.items c.push_count.new.out.items c.push_offsets.new.out.items c.push_gap.new.out.items c.push_objects.new.out.items (objects_view objects.items) c.len.result c.len-2.result c.gap.result
    many many' c.gap.ensures c.in_ok-push_count.ensures c.in_ok-push_offsets.ensures c.in_ok-push_gap.ensures)
    c.push_objects.ensures

pub push_table-returns : goal.push_table-returns
push_table-returns t c =
    let cells = c.args.cells.now in
    let many = c.len.ensures ∙ cells_count cells in
    on_ok_weaker c.push_below.result
    (table_pushed c.args.out.now.items c.push_vtable.new.out.items c.push_number.new.out.items c.push_cells.new.out.items c.push_below.new.out.items (cells_view cells.items) c.len.result c.vtable_size.result
    many c.vtable_size.ensures c.in_ok-push_vtable.ensures c.in_ok-push_number.ensures c.in_ok-push_cells.ensures)
    c.push_below.ensures
