use Rattle.std.proofs.Common.{◌≤◌, drop}
use Rattle.columns_core.specs.Measures.{fields_nesting}
use Rattle.columns_core.specs.View.{fields_view}
use Rattle.pq_tree.specs.TreeViews.{trees_view}
use Rattle.pq_headline.specs.Stages.{fields_with_columns, trees_with_columns}
use Rattle.rewrite_whole.proofs.Misfitting.{Left, LeftFields, LeftTrees}
use Rattle.rewrite_whole.proofs.misfit.is_misfit.Given as goal

abbrev pub invariant-loop-field : goal.invariant-loop-field
invariant-loop-field l = record {
  shallow : fields_nesting (fields_view (drop l.field-index l.field-items)) ≤ 128;
  left : Left (fields_with_columns (fields_view l.fields.items)) (LeftFields l.field-items l.field-index) (trees_with_columns (trees_view l.trees)) (LeftTrees l.trees l.at);
}
