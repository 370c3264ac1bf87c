use Rattle.std.proofs.Common.{◌≡◌, drop}
use Rattle.columns_core.specs.View.{fields_view}
use Rattle.schema_fb.specs.Tables.{are_fields}
use Rattle.schema_fb.proofs.expressible.+expressible.Given as goal

abbrev pub invariant-are_fields-loop-field : goal.invariant-are_fields-loop-field
invariant-are_fields-loop-field l = are_fields (fields_view (drop l.field-index l.field-items)) ≡ are_fields (fields_view l.fields.items)
