use Rattle.std.proofs.Common.{◌≡◌, ◌++◌, drop}
use Rattle.columns_core.specs.View.{fields_view}
use Rattle.schema_codec.specs.Spelling.{fields_bytes}
use Rattle.schema_codec.proofs.writing.+write.Given as goal

abbrev pub invariant-push_fields-loop-field : goal.invariant-push_fields-loop-field
invariant-push_fields-loop-field l =
    l.out.items ++ fields_bytes (fields_view (drop l.field-index l.field-items)) ≡ l.initial.out.items ++ fields_bytes (fields_view l.field-items)
