use Rattle.std.proofs.Common.{◌≡◌, drop}
use Rattle.columns_core.specs.View.{fields_view}
use Rattle.pq_tree.specs.TreeViews.{tree_view}
use Rattle.schema_fit.specs.PageTable.{go_together}
use Rattle.schema_fit.specs.Skeleton.{fields_bones}
use Rattle.schema_fit.specs.Walk.{rest_from, behind}
use Rattle.schema_fit.proofs.walk.+walk.Given as goal

abbrev pub invariant-eat_fields-loop-field : goal.invariant-eat_fields-loop-field
invariant-eat_fields-loop-field l =
    behind (go_together l.asked) (fields_bones (fields_view (drop l.field-index l.fields))) (rest_from l.source.is_inside (tree_view l.source.node.now) l.path)
    ≡ behind (go_together l.asked) (fields_bones (fields_view l.fields)) (rest_from l.source.is_inside (tree_view l.source.node.now) l.initial.path)
