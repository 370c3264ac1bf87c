-- Steps of reading that the code takes in functions of their own.
use Rattle.std.specs.Prelude.{ℕ, ◌+◌, List, String, string_bytes, Bool, Option, Some}
use Rattle.std.specs.declared.alloc.Global.{Global}
use Rattle.columns_core.specs.declared.types.IntegerType.{IntegerType}
use Rattle.columns_core.specs.Tree.{FieldTree}
use Rattle.schema_codec.specs.Parse.{◌>>=◌}
use Rattle.schema_codec.specs.Reading.{truth_of}
use Rattle.schema_fb.specs.Places.{short_at, word_at, follow, before, Table, table_at, number_in, text_in}
use Rattle.schema_fb.specs.Reading.{Reads, truth_in, key_in, type_in, keyed_in, metadata_in, made_field}

-- a value as a view sees it, and what may still be read
abbrev pub seen : {X Y : Type 0} → (X → Y) → X × ℕ → Y × ℕ
seen view x = (view x.0, x.1)

-- the texts of a key and of its value
abbrev pub entry_view : String Global × String Global → List ℕ × List ℕ
entry_view e = (string_bytes e.0, string_bytes e.1)

-- where the vtable of the table at a place stands
abbrev pub vtable_at : List ℕ → ℕ → Option ℕ
vtable_at bytes place = word_at bytes place >>= before place

-- the table to which the offset at a place leads
abbrev pub table_from : List ℕ → ℕ → Option Table
table_from bytes place = follow bytes place >>= table_at bytes

-- what stands where the offset at a place leads
abbrev pub item_from : {A : Type 0} → Reads A → List ℕ → Reads A
item_from one bytes place left = follow bytes place >>= λ there. one there left

-- how many parts the vector has to which the offset at a place leads, and where the first stands
abbrev pub vector_from : List ℕ → ℕ → Option (ℕ × ℕ)
vector_from bytes place = do
  there ← follow bytes place
  count ← word_at bytes there
  Some (count, there + 4)

-- whether a union is dense
abbrev pub dense_in : List ℕ → Table → Option Bool
dense_in bytes table = number_in short_at 0 bytes table 0 >>= truth_of

-- the type of a dictionary's keys, and whether its values are sorted
abbrev pub dictionary_from : List ℕ → ℕ → Option (IntegerType × Bool)
dictionary_from bytes place = do
  there ← follow bytes place
  table ← table_at bytes there
  key ← key_in bytes table
  sorted ← truth_in bytes table 2
  Some (key, sorted)

-- a field from its table
abbrev pub field_in : Reads FieldTree → List ℕ → Table → ℕ → Option (FieldTree × ℕ)
field_in one bytes table left = do
  name ← text_in bytes table 0 left
  nullable ← truth_in bytes table 1
  inner ← type_in one bytes table name.1
  type ← keyed_in bytes table inner.0
  metadata ← metadata_in bytes table 6 inner.1
  Some (made_field name.0 nullable type metadata.0, metadata.1)
