use Rattle.std.proofs.Common.{rules, ◌+◌, ◌||◌, drop, ap, sym, ◌∙◌}
use Rattle.columns_core.specs.View.{type_view, field_view, fields_view}
use Rattle.columns_core.specs.declared.types.Field.{out-Field}
use Rattle.pq_tree.specs.Types.{repeated}
use Rattle.schema_fit.specs.Skeleton.{repetition_of, type_bones, field_bones, fields_bones}
use Rattle.schema_fit.specs.Walk.{has_bones}
use Rattle.schema_fit.proofs.Bones.{has_under, has_and_then}
use Rattle.schema_fit.proofs.Fields.{field_is, fields_at, list_view, large_list_view, map_view}
use Rattle.schema_fit.proofs.walk.+leaves.Goals as goal

pub field_holds_leaf-returns : goal.field_holds_leaf-returns
field_holds_leaf-returns t c =
    let o = out-Field c.args.field.now in
    ap has_bones (field_is c.args.field.now) ∙ has_under (repetition_of o.is_nullable) (type_bones o.is_nullable (type_view o.data_type)) ∙ c.holds_leaf.ensures o.is_nullable

pub hold_leaf-returns-then-field_holds_leaf : goal.hold_leaf-returns-then-field_holds_leaf
hold_leaf-returns-then-field_holds_leaf t c =
    let i = c.loop-field.field-index in
    let xs = c.args.fields.now in
    let more = fields_bones (fields_view (drop (i + 1) xs)) in
    sym c.loop-field.invariant ∙ ap has_bones (fields_at xs i c.field-item.result (search rules) c.field-item.is) ∙ has_and_then (field_bones (field_view c.field-item.result)) more
    ∙ ap (λ b. b || has_bones more) (c.field_holds_leaf.ensures ∙ c.if-field_holds_leaf.true)

pub hold_leaf-loop-field-preserved : goal.hold_leaf-loop-field-preserved
hold_leaf-loop-field-preserved t c =
    let i = c.loop-field.field-index in
    let xs = c.args.fields.now in
    let more = fields_bones (fields_view (drop (i + 1) xs)) in
    let one = ap has_bones (fields_at xs i c.field-item.result (search rules) c.field-item.is) ∙ has_and_then (field_bones (field_view c.field-item.result)) more ∙ ap (λ b. b || has_bones more) (c.field_holds_leaf.ensures ∙ c.if-field_holds_leaf.false) in
    sym one ∙ c.loop-field.invariant

pub holds_leaf-returns-in-Map : goal.holds_leaf-returns-in-Map
holds_leaf-returns-in-Map t c = λ b.
    ap (λ v. has_bones (type_bones b v)) (ap type_view c.in-Map.is ∙ map_view c.in-Map.entry c.in-Map.field-1)
    ∙ has_under repeated (field_bones (field_view c.in-Map.entry.value)) ∙ ap (λ f. has_bones (field_bones (field_view f))) (sym c.deref-in-Map.ensures) ∙ c.field_holds_leaf-in-Map.ensures

pub holds_leaf-returns-in-List : goal.holds_leaf-returns-in-List
holds_leaf-returns-in-List t c = λ b.
    ap (λ v. has_bones (type_bones b v)) (ap type_view c.in-List.is ∙ list_view c.in-List.item)
    ∙ has_under repeated (field_bones (field_view c.in-List.item.value)) ∙ ap (λ f. has_bones (field_bones (field_view f))) (sym c.deref.ensures) ∙ c.field_holds_leaf.ensures

pub holds_leaf-returns-in-LargeList : goal.holds_leaf-returns-in-LargeList
holds_leaf-returns-in-LargeList t c = λ b.
    ap (λ v. has_bones (type_bones b v)) (ap type_view c.in-LargeList.is ∙ large_list_view c.in-LargeList.item)
    ∙ has_under repeated (field_bones (field_view c.in-LargeList.item.value)) ∙ ap (λ f. has_bones (field_bones (field_view f))) (sym c.deref-in-LargeList.ensures) ∙ c.field_holds_leaf-in-LargeList.ensures
