use Rattle.std.proofs.Common.{◌≡◌, ◌≤◌, drop}
use Rattle.columns_core.specs.Measures.{fields_nesting}
use Rattle.columns_core.specs.View.{fields_view}
use Rattle.pq_tree.specs.TreeViews.{trees_view}
use Rattle.schema_to_tree.specs.Table.{trees_of}
use Rattle.schema_to_tree.specs.Faults.{fields_fault}
use Rattle.schema_to_tree.proofs.Joined.{join}
use Rattle.schema_to_tree.proofs.trees.+trees.Given as goal

abbrev pub invariant-field_trees-loop-field : goal.invariant-field_trees-loop-field
invariant-field_trees-loop-field l =
    record {
      made : join (trees_view l.trees.items) (trees_of (fields_view (drop l.field-index l.field-items))) ≡ trees_of (fields_view l.fields.items);
      sound : fields_fault (fields_view (drop l.field-index l.field-items)) ≡ fields_fault (fields_view l.fields.items);
      shallow : fields_nesting (fields_view (drop l.field-index l.field-items)) ≤ 128;
    }
