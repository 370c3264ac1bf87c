use Rattle.std.proofs.Common.{◌≤◌, drop}
use Rattle.columns_core.specs.Measures.{fields_nesting}
use Rattle.columns_core.specs.View.{fields_view}
use Rattle.schema_codec.specs.Ranges.{FieldsHaveRanges}
use Rattle.schema_codec.proofs.known.+know.Given as goal

abbrev pub invariant-know_fields-loop-field : goal.invariant-know_fields-loop-field
invariant-know_fields-loop-field l =
    record {
      left : FieldsHaveRanges (fields_view (drop l.field-index l.field-items)) → FieldsHaveRanges (fields_view l.fields.items);
      shallow : fields_nesting (fields_view (drop l.field-index l.field-items)) ≤ 128;
    }
