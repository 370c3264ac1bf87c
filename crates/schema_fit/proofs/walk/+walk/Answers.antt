use Rattle.std.proofs.Common.{rules, ◌≡◌, ◌+◌, true, false, drop, replicate, refl, ap, sym, ◌∙◌}
use Rattle.columns_core.specs.View.{type_view, field_view, fields_view}
use Rattle.columns_core.specs.declared.types.Field.{out-Field}
use Rattle.pq_tree.specs.TreeViews.{tree_view}
use Rattle.pq_tree.specs.Types.{optional, repeated}
use Rattle.schema_fit.specs.PageTable.{go_together}
use Rattle.schema_fit.specs.Places.{found_bone}
use Rattle.schema_fit.specs.Skeleton.{bone, under, type_bones, field_bones, fields_bones}
use Rattle.schema_fit.specs.Walk.{inner_bones, rest_from, rest_inside, behind}
use Rattle.schema_fit.proofs.Behind.{eats_as, eats_nothing, eats_optional, no_optional, end_optional, eats_repeated, no_repeated, end_repeated, behind_some, behind_none, same_none}
use Rattle.schema_fit.proofs.Fields.{field_required, field_optional, fields_at, eats_false, eats_true, inside_ends, list_view, large_list_view, map_view}
use Rattle.schema_fit.proofs.Rests.{fresh_inside}
use Rattle.schema_fit.proofs.walk.+walk.Goals as goal

pub eat_field-returns-then-not-field : goal.eat_field-returns-then-not-field
eat_field-returns-then-not-field t c =
    let g = go_together c.args.asked in
    let rest = rest_from c.args.source.is_inside (tree_view c.args.source.node.now) in
    let xs = type_bones false (type_view (out-Field c.args.field.now).data_type) in
    eats_as g xs (field_bones (field_view c.args.field.now)) c.eat_type.result (rest c.args.path.now) (rest c.eat_type.new.path) (sym (field_required c.args.field.now (search rules))) c.eat_type.ensures

pub eat_field-returns-then-not-holds_leaf : goal.eat_field-returns-then-not-holds_leaf
eat_field-returns-then-not-holds_leaf t c =
    let g = go_together c.args.asked in
    let old = rest_from c.args.source.is_inside (tree_view c.args.source.node.now) c.args.path.now in
    let xs = type_bones true (type_view (out-Field c.args.field.now).data_type) in
    let e : c.holds_leaf.result ≡ false = search rules in
    ap (λ zs. behind g zs old) (field_optional c.args.field.now (search rules)) ∙ eats_nothing g optional xs old (c.holds_leaf.ensures true ∙ e)

pub eat_field-returns-in_default : goal.eat_field-returns-in_default
eat_field-returns-in_default t c =
    let g = go_together c.args.asked in
    let old = rest_from c.args.source.is_inside (tree_view c.args.source.node.now) c.args.path.now in
    let xs = type_bones true (type_view (out-Field c.args.field.now).data_type) in
    let e : c.holds_leaf.result ≡ true = search rules in
    ap (λ zs. behind g zs old) (field_optional c.args.field.now (search rules)) ∙ end_optional g xs old (c.holds_leaf.ensures true ∙ e) c.in_default.ensures.next

pub eat_field-returns-in-Optional : goal.eat_field-returns-in-Optional
eat_field-returns-in-Optional t c =
    let g = go_together c.args.asked in
    let rest = rest_from c.args.source.is_inside (tree_view c.args.source.node.now) in
    let xs = type_bones true (type_view (out-Field c.args.field.now).data_type) in
    let e : c.holds_leaf.result ≡ true = search rules in
    let found = c.in-Some.ensures.next ∙ ap (λ f. bone (found_bone f) (rest c.next.new.path)) c.in-Optional.is in
    eats_as g (under optional xs) (field_bones (field_view c.args.field.now)) c.is_type_inside.result (rest c.args.path.now) (rest c.next.new.path) (sym (field_optional c.args.field.now (search rules)))
    (eats_optional g xs (inner_bones (tree_view c.in-Optional.node.now)) c.is_type_inside.result (rest c.args.path.now) (rest c.next.new.path) (c.holds_leaf.ensures true ∙ e) found c.is_type_inside.ensures)

pub eat_field-returns-in-Leaf : goal.eat_field-returns-in-Leaf
eat_field-returns-in-Leaf t c =
    let g = go_together c.args.asked in
    let rest = rest_from c.args.source.is_inside (tree_view c.args.source.node.now) in
    let xs = type_bones true (type_view (out-Field c.args.field.now).data_type) in
    let e : c.holds_leaf.result ≡ true = search rules in
    let found = c.in-Some.ensures.next ∙ ap (λ f. bone (found_bone f) (rest c.next.new.path)) c.in-Leaf.is in
    ap (λ zs. behind g zs (rest c.args.path.now)) (field_optional c.args.field.now (search rules)) ∙ no_optional g xs _ (rest c.args.path.now) (rest c.next.new.path) (c.holds_leaf.ensures true ∙ e) found refl

pub eat_field-returns-in-Repeated : goal.eat_field-returns-in-Repeated
eat_field-returns-in-Repeated t c =
    let g = go_together c.args.asked in
    let rest = rest_from c.args.source.is_inside (tree_view c.args.source.node.now) in
    let xs = type_bones true (type_view (out-Field c.args.field.now).data_type) in
    let e : c.holds_leaf.result ≡ true = search rules in
    let found = c.in-Some.ensures.next ∙ ap (λ f. bone (found_bone f) (rest c.next.new.path)) c.in-Repeated.is in
    ap (λ zs. behind g zs (rest c.args.path.now)) (field_optional c.args.field.now (search rules)) ∙ no_optional g xs _ (rest c.args.path.now) (rest c.next.new.path) (c.holds_leaf.ensures true ∙ e) found refl

pub eat_fields-returns-then-not-eat_field : goal.eat_fields-returns-then-not-eat_field
eat_fields-returns-then-not-eat_field t c =
    let g = go_together c.args.asked in
    let i = c.loop-field.field-index in
    let fs = c.args.fields.now in
    let rest = rest_from c.args.source.is_inside (tree_view c.args.source.node.now) in
    let x = field_bones (field_view c.field-item.result) in
    let more = fields_bones (fields_view (drop (i + 1) fs)) in
    let e : c.eat_field.result ≡ false = search rules in
    sym c.loop-field.invariant ∙ ap (λ zs. behind g zs (rest c.loop-field.path)) (fields_at fs i c.field-item.result (search rules) c.field-item.is)
    ∙ behind_none g x more (rest c.loop-field.path) (eats_false g c.eat_field.result x (rest c.loop-field.path) (rest c.eat_field.new.path) e c.eat_field.ensures)

pub eat_fields-loop-field-preserved : goal.eat_fields-loop-field-preserved
eat_fields-loop-field-preserved t c =
    let g = go_together c.args.asked in
    let i = c.loop-field.field-index in
    let fs = c.args.fields.now in
    let rest = rest_from c.args.source.is_inside (tree_view c.args.source.node.now) in
    let x = field_bones (field_view c.field-item.result) in
    let more = fields_bones (fields_view (drop (i + 1) fs)) in
    let e : c.eat_field.result ≡ true = search rules in
    let all = behind_some g x more (rest c.loop-field.path) (rest c.eat_field.new.path) (eats_true g c.eat_field.result x (rest c.loop-field.path) (rest c.eat_field.new.path) e c.eat_field.ensures) in
    sym (ap (λ zs. behind g zs (rest c.loop-field.path)) (fields_at fs i c.field-item.result (search rules) c.field-item.is) ∙ all) ∙ c.loop-field.invariant

pub is_field_inside-returns-then-not-eat_field : goal.is_field_inside-returns-then-not-eat_field
is_field_inside-returns-then-not-eat_field t c =
    let e : c.eat_field.result ≡ false = search rules in
    let f = fresh_inside (tree_view c.args.node.now) 128 in
    same_none (go_together c.args.asked) (field_bones (field_view c.args.field.now)) (inner_bones (tree_view c.args.node.now)) _ f (eats_false (go_together c.args.asked) c.eat_field.result (field_bones (field_view c.args.field.now)) (rest_inside (tree_view c.args.node.now) (replicate 128 0)) (rest_inside (tree_view c.args.node.now) c.eat_field.new.path) e c.eat_field.ensures)

pub is_field_inside-returns : goal.is_field_inside-returns
is_field_inside-returns t c =
    let e : c.eat_field.result ≡ true = search rules in
    let f = fresh_inside (tree_view c.args.node.now) 128 in
    inside_ends (go_together c.args.asked) c.next.result c.is_none.result (field_bones (field_view c.args.field.now)) (inner_bones (tree_view c.args.node.now)) _ _ _ c.is_none.ensures c.next.ensures.next f
    (eats_true (go_together c.args.asked) c.eat_field.result (field_bones (field_view c.args.field.now)) (rest_inside (tree_view c.args.node.now) (replicate 128 0)) (rest_inside (tree_view c.args.node.now) c.eat_field.new.path) e c.eat_field.ensures)

pub is_type_inside-returns-then-not-eat_type : goal.is_type_inside-returns-then-not-eat_type
is_type_inside-returns-then-not-eat_type t c =
    let e : c.eat_type.result ≡ false = search rules in
    let f = fresh_inside (tree_view c.args.node.now) 128 in
    same_none (go_together c.args.asked) (type_bones c.args.is_nullable (type_view c.args.data_type.now)) (inner_bones (tree_view c.args.node.now)) _ f (eats_false (go_together c.args.asked) c.eat_type.result (type_bones c.args.is_nullable (type_view c.args.data_type.now)) (rest_inside (tree_view c.args.node.now) (replicate 128 0)) (rest_inside (tree_view c.args.node.now) c.eat_type.new.path) e c.eat_type.ensures)

pub is_type_inside-returns : goal.is_type_inside-returns
is_type_inside-returns t c =
    let e : c.eat_type.result ≡ true = search rules in
    let f = fresh_inside (tree_view c.args.node.now) 128 in
    inside_ends (go_together c.args.asked) c.next.result c.is_none.result (type_bones c.args.is_nullable (type_view c.args.data_type.now)) (inner_bones (tree_view c.args.node.now)) _ _ _ c.is_none.ensures c.next.ensures.next f
    (eats_true (go_together c.args.asked) c.eat_type.result (type_bones c.args.is_nullable (type_view c.args.data_type.now)) (rest_inside (tree_view c.args.node.now) (replicate 128 0)) (rest_inside (tree_view c.args.node.now) c.eat_type.new.path) e c.eat_type.ensures)

pub eat_items-returns-then-not-field_holds_leaf : goal.eat_items-returns-then-not-field_holds_leaf
eat_items-returns-then-not-field_holds_leaf t c =
    let g = go_together c.args.asked in
    let old = rest_from c.args.source.is_inside (tree_view c.args.source.node.now) c.args.path.now in
    let e : c.field_holds_leaf.result ≡ false = search rules in
    eats_nothing g repeated (field_bones (field_view c.args.item.now)) old (c.field_holds_leaf.ensures ∙ e)

pub eat_items-returns-in_default : goal.eat_items-returns-in_default
eat_items-returns-in_default t c =
    let g = go_together c.args.asked in
    let old = rest_from c.args.source.is_inside (tree_view c.args.source.node.now) c.args.path.now in
    let e : c.field_holds_leaf.result ≡ true = search rules in
    end_repeated g (field_bones (field_view c.args.item.now)) old (c.field_holds_leaf.ensures ∙ e) c.in_default.ensures.next

pub eat_items-returns-in-Repeated : goal.eat_items-returns-in-Repeated
eat_items-returns-in-Repeated t c =
    let g = go_together c.args.asked in
    let rest = rest_from c.args.source.is_inside (tree_view c.args.source.node.now) in
    let xs = field_bones (field_view c.args.item.now) in
    let ys = inner_bones (tree_view c.in-Repeated.node.now) in
    let e : c.field_holds_leaf.result ≡ true = search rules in
    let found = c.in-Some.ensures.next ∙ ap (λ f. bone (found_bone f) (rest c.next.new.path)) c.in-Repeated.is in
    eats_repeated g xs ys c.is_field_inside.result (rest c.args.path.now) (rest c.next.new.path) (c.field_holds_leaf.ensures ∙ e)
    found c.is_field_inside.ensures

pub eat_items-returns-in-Leaf : goal.eat_items-returns-in-Leaf
eat_items-returns-in-Leaf t c =
    let g = go_together c.args.asked in
    let rest = rest_from c.args.source.is_inside (tree_view c.args.source.node.now) in
    let xs = field_bones (field_view c.args.item.now) in
    let e : c.field_holds_leaf.result ≡ true = search rules in
    let found = c.in-Some.ensures.next ∙ ap (λ f. bone (found_bone f) (rest c.next.new.path)) c.in-Leaf.is in
    no_repeated g xs _ (rest c.args.path.now) (rest c.next.new.path) (c.field_holds_leaf.ensures ∙ e) found refl

pub eat_items-returns-in-Optional : goal.eat_items-returns-in-Optional
eat_items-returns-in-Optional t c =
    let g = go_together c.args.asked in
    let rest = rest_from c.args.source.is_inside (tree_view c.args.source.node.now) in
    let xs = field_bones (field_view c.args.item.now) in
    let e : c.field_holds_leaf.result ≡ true = search rules in
    let found = c.in-Some.ensures.next ∙ ap (λ f. bone (found_bone f) (rest c.next.new.path)) c.in-Optional.is in
    no_repeated g xs _ (rest c.args.path.now) (rest c.next.new.path) (c.field_holds_leaf.ensures ∙ e) found refl

pub eat_type-returns-in-List : goal.eat_type-returns-in-List
eat_type-returns-in-List t c =
    let rest = rest_from c.args.source.is_inside (tree_view c.args.source.node.now) in
    let own = type_bones c.args.is_nullable in
    let items = under repeated (field_bones (field_view c.deref.result.now)) in
    let same = ap (λ f. under repeated (field_bones (field_view f))) c.deref.ensures
    ∙ sym (ap own (ap type_view c.in-List.is ∙ list_view c.in-List.item)) in
    eats_as (go_together c.args.asked) items (own (type_view c.args.data_type.now)) c.eat_items.result
    (rest c.args.path.now) (rest c.eat_items.new.path) same c.eat_items.ensures

pub eat_type-returns-in-LargeList : goal.eat_type-returns-in-LargeList
eat_type-returns-in-LargeList t c =
    let rest = rest_from c.args.source.is_inside (tree_view c.args.source.node.now) in
    let own = type_bones c.args.is_nullable in
    let items = under repeated (field_bones (field_view c.deref-in-LargeList.result.now)) in
    let same = ap (λ f. under repeated (field_bones (field_view f))) c.deref-in-LargeList.ensures
    ∙ sym (ap own (ap type_view c.in-LargeList.is ∙ large_list_view c.in-LargeList.item)) in
    eats_as (go_together c.args.asked) items (own (type_view c.args.data_type.now)) c.eat_items-in-LargeList.result
    (rest c.args.path.now) (rest c.eat_items-in-LargeList.new.path) same c.eat_items-in-LargeList.ensures

pub eat_type-returns-in-Map : goal.eat_type-returns-in-Map
eat_type-returns-in-Map t c =
    let rest = rest_from c.args.source.is_inside (tree_view c.args.source.node.now) in
    let own = type_bones c.args.is_nullable in
    let items = under repeated (field_bones (field_view c.deref-in-Map.result.now)) in
    let same = ap (λ f. under repeated (field_bones (field_view f))) c.deref-in-Map.ensures
    ∙ sym (ap own (ap type_view c.in-Map.is ∙ map_view c.in-Map.entry c.in-Map.field-1)) in
    eats_as (go_together c.args.asked) items (own (type_view c.args.data_type.now)) c.eat_items-in-Map.result
    (rest c.args.path.now) (rest c.eat_items-in-Map.new.path) same c.eat_items-in-Map.ensures
