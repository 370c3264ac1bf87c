use Rattle.std.proofs.Common.{◌≡◌, ◌≤◌, drop}
use Rattle.columns_core.specs.Measures.{fields_nesting}
use Rattle.columns_core.specs.View.{fields_view}
use Rattle.pq_tree.specs.Tree.{nesting_of}
use Rattle.pq_tree.specs.TreeViews.{trees_view}
use Rattle.pq_files.specs.Reasons.{AnyOf}
use Rattle.schema_map.specs.Rows.{HasRows}
use Rattle.schema_to_tree.specs.Table.{trees_of}
use Rattle.pq_headline.specs.Stages.{HaveRows, list_fields}
use Rattle.rewrite_whole.proofs.plan.have_rows.Given as goal

abbrev pub invariant-loop-i : goal.invariant-loop-i
invariant-loop-i l = record {
  shallow : fields_nesting (fields_view (drop l.i l.field-items)) ≤ 128;
  nesting : nesting_of (trees_view (drop l.i l.trees)) ≤ 128;
  trees : trees_view (drop l.i l.trees) ≡ trees_of (fields_view (drop l.i l.field-items));
  all : HaveRows (fields_view (drop l.i l.field-items)) → HaveRows (fields_view l.fields.items);
  any : AnyOf (λ g. ¬ HasRows g) (list_fields (fields_view (drop l.i l.field-items))) → AnyOf (λ g. ¬ HasRows g) (list_fields (fields_view l.fields.items));
}
