use Rattle.std.proofs.Common.{rules, ◌≡◌, true, false, replicate}
use Rattle.columns_core.specs.View.{field_view}
use Rattle.pq_tree.specs.TreeViews.{tree_view}
use Rattle.schema_fit.specs.PageTable.{go_together}
use Rattle.schema_fit.specs.Skeleton.{field_bones, tree_bones}
use Rattle.schema_fit.specs.Walk.{rest_of}
use Rattle.schema_fit.proofs.Behind.{same_none}
use Rattle.schema_fit.proofs.Fields.{eats_false, eats_true, inside_ends}
use Rattle.schema_fit.proofs.Rests.{fresh_of}
use Rattle.schema_fit.proofs.walk.is_same.Goals as goal

pub returns-then-not-eat_field : goal.returns-then-not-eat_field
returns-then-not-eat_field c =
    let e : c.eat_field.result ≡ false = search rules in
    let f = fresh_of (tree_view c.args.node.now) 128 in
    same_none (go_together c.args.asked) (field_bones (field_view c.args.field.now)) (tree_bones (tree_view c.args.node.now)) _ f (eats_false (go_together c.args.asked) c.eat_field.result (field_bones (field_view c.args.field.now)) (rest_of (tree_view c.args.node.now) (replicate 128 0)) (rest_of (tree_view c.args.node.now) c.eat_field.new.path) e c.eat_field.ensures)

pub returns : goal.returns
returns c =
    let e : c.eat_field.result ≡ true = search rules in
    let f = fresh_of (tree_view c.args.node.now) 128 in
    inside_ends (go_together c.args.asked) c.next.result c.is_none.result (field_bones (field_view c.args.field.now)) (tree_bones (tree_view c.args.node.now)) _ _ _ c.is_none.ensures c.next.ensures.next f
    (eats_true (go_together c.args.asked) c.eat_field.result (field_bones (field_view c.args.field.now)) (rest_of (tree_view c.args.node.now) (replicate 128 0)) (rest_of (tree_view c.args.node.now) c.eat_field.new.path) e c.eat_field.ensures)
