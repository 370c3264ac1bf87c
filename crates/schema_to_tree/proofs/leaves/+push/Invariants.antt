use Rattle.std.proofs.Common.{◌≡◌, ◌≤◌, ◌++◌, drop}
use Rattle.columns_core.specs.Measures.{fields_nesting}
use Rattle.columns_core.specs.View.{fields_view}
use Rattle.schema_to_tree.specs.Leaves.{shown, fields_leaf_types, fields_way_fault}
use Rattle.schema_to_tree.proofs.leaves.+push.Given as goal

abbrev pub invariant-push_leaves_of-loop-field : goal.invariant-push_leaves_of-loop-field
invariant-push_leaves_of-loop-field l =
    record {
      pushed : shown l.leaves.items ++ fields_leaf_types (fields_view (drop l.field-index l.field-items)) ≡ shown l.fn.leaves.items ++ fields_leaf_types (fields_view l.fields.items);
      sound : fields_way_fault (fields_view (drop l.field-index l.field-items)) ≡ fields_way_fault (fields_view l.fields.items);
      shallow : fields_nesting (fields_view (drop l.field-index l.field-items)) ≤ 128;
    }
