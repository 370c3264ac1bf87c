use Rattle.std.proofs.Common.{◌≡◌, map, drop}
use Rattle.columns_core.specs.View.{fields_view}
use Rattle.schema_fb.specs.Tables.{fields_objects}
use Rattle.schema_fb.specs.Views.{object_view}
use Rattle.schema_fb.proofs.Built.{joined}
use Rattle.schema_fb.proofs.tables.+fields.Given as goal

abbrev pub invariant-fields_objects-loop-field : goal.invariant-fields_objects-loop-field
invariant-fields_objects-loop-field l = joined (map object_view l.objects.items) (fields_objects l.id (fields_view (drop l.field-index l.field-items))) ≡ fields_objects l.fn.id (fields_view l.fields.items)
