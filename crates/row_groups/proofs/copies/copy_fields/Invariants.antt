use Rattle.std.proofs.Common.{◌≡◌, map, take}
use Rattle.columns_core.specs.View.{field_view}
use Rattle.row_groups.proofs.copies.copy_fields.Given as goal

abbrev pub invariant-loop-field : goal.invariant-loop-field
invariant-loop-field l = map field_view l.copies.items ≡ map field_view (take l.field-index l.fields)
