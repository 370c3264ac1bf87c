use Rattle.std.proofs.Common.{◌≡◌, ◌≤◌, drop}
use Rattle.columns_core.specs.Measures.{fields_nesting}
use Rattle.columns_core.specs.View.{fields_view}
use Rattle.schema_to_tree.specs.Conditions.{is_bad_time64, some_fields}
use Rattle.schema_to_tree.proofs.times.+times.Given as goal

abbrev pub invariant-have_bad_time64-loop-field : goal.invariant-have_bad_time64-loop-field
invariant-have_bad_time64-loop-field l =
    record {
      left : some_fields is_bad_time64 (fields_view (drop l.field-index l.field-items)) ≡ some_fields is_bad_time64 (fields_view l.fields.items);
      shallow : fields_nesting (fields_view (drop l.field-index l.field-items)) ≤ 128;
    }
