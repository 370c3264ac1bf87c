use Rattle.std.proofs.Common.{◌≡◌, ◌≤◌, min, max, drop}
use Rattle.columns_core.specs.Measures.{fields_nesting}
use Rattle.columns_core.specs.View.{fields_view}
use Rattle.schema_to_tree.specs.Depth.{fields_tree_depth}
use Rattle.schema_to_tree.proofs.depth.+tree_depth.Given as goal

abbrev pub invariant-fields_tree_depth_to-loop-field : goal.invariant-fields_tree_depth_to-loop-field
invariant-fields_tree_depth_to-loop-field l =
    record {
      depth : max l.deepest (min l.limit (fields_tree_depth (fields_view (drop l.field-index l.field-items)))) ≡ min l.limit (fields_tree_depth (fields_view l.fields.items));
      shallow : fields_nesting (fields_view (drop l.field-index l.field-items)) ≤ 128;
    }
