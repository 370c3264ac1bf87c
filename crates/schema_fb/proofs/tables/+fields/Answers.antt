use Rattle.std.proofs.Common.{◌≡◌, ◌+◌, [], ℕ, List, map, drop, sym, ap, ◌∙◌}
use Rattle.std.proofs.lemmas.List.{drop_all}
use Rattle.columns_core.specs.View.{type_view, field_view, fields_view}
use Rattle.columns_core.specs.declared.types.Field.{Field, out-Field}
use Rattle.schema_fb.specs.Layout as layout
use Rattle.schema_fb.specs.Tables.{three, truth, type_cells, encoding, next_id, children, custom_metadata, field_dictionaries, field_object, fields_objects}
use Rattle.schema_fb.specs.Extensions.{carried}
use Rattle.schema_fb.specs.Tags.{tag_number}
use Rattle.schema_fb.specs.Views.{cell_view, cells_view, object_view}
use Rattle.schema_fb.specs.declared.object.Cell.{Below}
use Rattle.schema_fb.specs.declared.object.Object.{Vector, Table}
use Rattle.schema_fb.proofs.Built.{put, pushed, joined, joined_all, fields_step}
use Rattle.schema_fb.proofs.Opened.{table_opened, vector_opened, below_opened, field_opened}
use Rattle.schema_fb.proofs.Steps.{turn}
use Rattle.schema_fb.proofs.tables.+fields.Goals as goal

pub field_object-returns : goal.field_object-returns
field_object-returns t c =
    let f = c.args.field.now in
    let id = c.args.id in
    let type = type_view (out-Field f).data_type in
    let cells = c.in_ok-cells.cells in
    let type_table = c.in_ok-type_cells.field-0 in
    let within = c.in_ok-within.within in
    let v1 = layout.below (layout.table (type_cells type)) in
    let v2 = encoding id type in
    let v3 = layout.below (layout.vector (children (next_id id type) type)) in
    let v4 = custom_metadata (carried type (out-Field f).metadata) in
    let q1 : cell_view (Below (Table type_table)) ≡ v1 = below_opened (Table type_table) ∙ ap layout.below (table_opened type_table ∙ ap layout.table c.in_ok-type_cells.ensures) in
    let q3 : cell_view (Below (Vector within)) ≡ v3 =
    below_opened (Vector within) ∙ ap layout.below (vector_opened within ∙ ap layout.vector (c.in_ok-within.ensures ∙ ap (λ (n : ℕ). children n type) c.in_ok-next_id.ensures)) in
    let first = three (layout.below (layout.text c.as_str.result.now)) (truth (out-Field f).is_nullable) in
    let v0 = first (layout.number (tag_number type)) in
    let p0 : cells_view cells.items ≡ v0 = c.in_ok-cells.ensures ∙ ap (λ (n : ℕ). first (layout.number n)) c.number_of_tag-tag.ensures in
    let p1 = pushed cells.items c.push.new.self.items (Below (Table type_table)) v0 v1 c.in_ok-push.ensures.items p0 q1 in
    let p2 = pushed c.push.new.self.items c.push-2.new.self.items c.in_ok-encoding.field-0 (put v0 v1) v2 c.in_ok-push-2.ensures.items p1 c.in_ok-encoding.ensures in
    let p3 = pushed c.push-2.new.self.items c.push-3.new.self.items (Below (Vector within)) (put (put v0 v1) v2) v3 c.in_ok-push-3.ensures.items p2 q3 in
    let p4 = pushed c.push-3.new.self.items c.push-4.new.self.items c.in_ok-carried_metadata.field-0 (put (put (put v0 v1) v2) v3) v4 c.in_ok-push-4.ensures.items p3 c.in_ok-carried_metadata.ensures in
    let named = ap (λ (name : List ℕ). layout.table (put (put (put (put (three (layout.below (layout.text name)) (truth (out-Field f).is_nullable) (layout.number (tag_number type))) v1) v2) v3) v4)) c.as_str.ensures.value in
    table_opened c.push-4.new.self ∙ ap layout.table p4 ∙ named ∙ ap (field_object id) (sym (field_opened f))

pub fields_objects-loop-field-preserved : goal.fields_objects-loop-field-preserved
fields_objects-loop-field-preserved t c =
    let fields = c.deref-field-items.result.now in
    let i = c.loop-field.field-index in
    let f = c.field-item.result in
    let is = ap fields_view (turn fields i f c.loop-field-test.true c.field-item.is) in
    let counted : c.in_ok-dictionaries.field-0 ≡ field_dictionaries (field_view f) = c.in_ok-dictionaries.ensures ∙ sym (ap field_dictionaries (field_opened f)) in
    fields_step c.loop-field.objects.items c.push.new.self.items c.in_ok-field_object.field-0 c.loop-field.id c.in_ok-id.id c.in_ok-dictionaries.field-0 (field_view f) (fields_view (drop i fields)) (fields_view (drop (i + 1) fields)) _
    is c.in_ok-field_object.ensures c.in_ok-id.ensures counted c.in_ok-push.ensures.items c.loop-field.invariant

pub fields_objects-returns : goal.fields_objects-returns
fields_objects-returns t c =
    let fields = c.deref-field-items.result.now in
    let objects = map object_view c.loop-field.objects.items in
    let none : drop c.loop-field.field-index fields ≡ [] = drop_all c.loop-field.field-index fields c.loop-field-test.false in
    sym (joined_all objects) ∙ ap (λ (fs : List Field). joined objects (fields_objects c.loop-field.id (fields_view fs))) (sym none) ∙ c.loop-field.invariant
