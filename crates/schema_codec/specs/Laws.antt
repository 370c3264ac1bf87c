-- Laws of the plain bytes of schemas.
use Rattle.std.specs.Prelude.{◌≡◌, ◌≤◌, ℕ, List, length, Some}
use Rattle.columns_core.specs.Measures.{fields_nesting}
use Rattle.columns_core.specs.View.{SchemaTree}
use Rattle.schema_codec.specs.Ranges.{IsSchema, IsBytes, max_nesting, max_length}
use Rattle.schema_codec.specs.Reading.{plain_reads}
use Rattle.schema_codec.specs.Spelling.{plain_bytes}

-- the bytes of a schema are read as that schema
abbrev pub IsReadAgain : Type 0
IsReadAgain = (s : SchemaTree) → IsSchema s → fields_nesting s.fields ≤ max_nesting → length (plain_bytes s) ≤ max_length → plain_reads (plain_bytes s) ≡ Some s

-- bytes that are read as a schema are its bytes, and no others are
abbrev pub IsSpelledSo : Type 0
IsSpelledSo = (bytes : List ℕ) (s : SchemaTree) → IsBytes bytes → plain_reads bytes ≡ Some s → (bytes ≡ plain_bytes s) × IsSchema s × (fields_nesting s.fields ≤ max_nesting)

abbrev pub IsShallow : Type 0
IsShallow = (bytes : List ℕ) (s : SchemaTree) → IsBytes bytes → plain_reads bytes ≡ Some s → fields_nesting s.fields ≤ max_nesting
