-- The law of the codec.
use Rattle.std.specs.Prelude.{◌≡◌, ◌≤◌, length, Some}
use Rattle.columns_core.specs.Measures.{fields_nesting}
use Rattle.columns_core.specs.View.{SchemaTree}
use Rattle.schema_codec.specs.Ranges.{IsSchema, max_nesting, max_length}
use Rattle.schema_fb.specs.Reading.{flat_reads}
use Rattle.schema_fb.specs.Tables.{flat_bytes}

-- the bytes of a schema are read as that schema
abbrev pub IsReadAgain : Type 0
IsReadAgain = (s : SchemaTree) → IsSchema s → fields_nesting s.fields ≤ max_nesting → length (flat_bytes s) ≤ max_length → flat_reads (flat_bytes s) ≡ Some s
