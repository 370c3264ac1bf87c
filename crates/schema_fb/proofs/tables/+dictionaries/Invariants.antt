use Rattle.std.proofs.Common.{◌≡◌, ◌+◌, drop}
use Rattle.columns_core.specs.View.{fields_view}
use Rattle.schema_fb.specs.Tables.{fields_dictionaries}
use Rattle.schema_fb.proofs.tables.+dictionaries.Given as goal

abbrev pub invariant-fields_dictionaries-loop-field : goal.invariant-fields_dictionaries-loop-field
invariant-fields_dictionaries-loop-field l = l.total + fields_dictionaries (fields_view (drop l.field-index l.field-items)) ≡ fields_dictionaries (fields_view l.fields.items)
