use Rattle.std.proofs.Common.{◌≡◌, ◌≤◌, ◌+◌, ◌-◌, ◌^◌, ◌<◌, min, drop}
use Rattle.columns_core.specs.View.{fields_view}
use Rattle.columns_core.specs.Measures.{fields_leaves, fields_nesting}
use Rattle.schema_to_tree.specs.Leaves.{fields_meet, is_union}
use Rattle.schema_to_tree.proofs.leaves.+count.Given as goal

abbrev pub invariant-n_columns_of-loop-field : goal.invariant-n_columns_of-loop-field
invariant-n_columns_of-loop-field l =
    record {
      in_range : l.count < 2 ^ 64;
      counted : min (2 ^ 64 - 1) (l.count + fields_leaves (fields_view (drop l.field-index l.field-items))) ≡ min (2 ^ 64 - 1) (fields_leaves (fields_view l.fields.items));
      sound : fields_meet is_union (fields_view (drop l.field-index l.field-items)) ≡ fields_meet is_union (fields_view l.fields.items);
      shallow : fields_nesting (fields_view (drop l.field-index l.field-items)) ≤ 128;
    }
