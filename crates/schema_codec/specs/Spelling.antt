-- The bytes of a schema. Counts and lengths have four bytes, sizes eight, the lowest first.
use Rattle.std.specs.Prelude.{ℕ, suc, ℤ, ◌%◌, ◌^◌, List, [], ◌∷◌, ◌++◌, length, flat_map, Bool, Option, Some, None, if◌then◌else◌}
use Rattle.std.specs.Int.{w32, w64, to_le_bytes, cast_unsigned}
use Rattle.columns_core.specs.Meta.{Meta}
use Rattle.columns_core.specs.Tree.{TypeTree, t_null, t_boolean, t_int8, t_int16, t_int32, t_int64, t_uint8, t_uint16, t_uint32, t_uint64, t_float16, t_float32, t_float64, t_timestamp, t_date32, t_date64, t_time32, t_time64, t_duration, t_interval, t_binary, t_fixed_size_binary, t_large_binary, t_utf8, t_large_utf8, t_list, t_fixed_size_list, t_large_list, t_struct, t_union, t_map, t_dictionary, t_decimal, t_decimal256, t_extension, FieldTree, field, FieldTrees, no_fields, more_fields}
use Rattle.columns_core.specs.View.{SchemaTree}
use Rattle.schema_codec.specs.Tags.{unit_number, interval_number, key_number}

-- a count or a length: its low 32 bits
unfoldable pub count_bytes : ℕ → List ℕ
count_bytes n = to_le_bytes w32 (n % 2 ^ 32)

-- a size
unfoldable pub size_bytes : ℕ → List ℕ
size_bytes n = to_le_bytes w64 n

-- a signed number of 32 bits, in two's complement
abbrev pub id_bytes : ℤ → List ℕ
id_bytes z = count_bytes (cast_unsigned w32 z)

abbrev pub truth_bytes : Bool → List ℕ
truth_bytes b = (if b then 1 else 0) ∷ []

abbrev pub text_bytes : List ℕ → List ℕ
text_bytes s = count_bytes (length s) ++ s

-- a truth value, and what is there behind a true one
abbrev pub optional_bytes : {A : Type 0} → (A → List ℕ) → Option A → List ℕ
optional_bytes spell None = 0 ∷ []
optional_bytes spell (Some x) = 1 ∷ spell x

-- the count, and one after the other
abbrev pub counted_bytes : {A : Type 0} → (A → List ℕ) → List A → List ℕ
counted_bytes spell xs = count_bytes (length xs) ++ flat_map spell xs

abbrev pub entry_bytes : List ℕ × List ℕ → List ℕ
entry_bytes e = text_bytes e.0 ++ text_bytes e.1

abbrev pub metadata_bytes : Meta → List ℕ
metadata_bytes = counted_bytes entry_bytes

abbrev pub ids_bytes : Option (List ℤ) → List ℕ
ids_bytes = optional_bytes (counted_bytes id_bytes)

abbrev pub optional_text_bytes : Option (List ℕ) → List ℕ
optional_text_bytes = optional_bytes text_bytes

abbrev pub count : FieldTrees → ℕ
count no_fields = 0
count (more_fields f fs) = suc (count fs)

-- A type is its tag and its parts.
abbrev mutual
  pub type_bytes : TypeTree → List ℕ
  type_bytes t_null = 0 ∷ []
  type_bytes t_boolean = 1 ∷ []
  type_bytes t_int8 = 2 ∷ []
  type_bytes t_int16 = 3 ∷ []
  type_bytes t_int32 = 4 ∷ []
  type_bytes t_int64 = 5 ∷ []
  type_bytes t_uint8 = 6 ∷ []
  type_bytes t_uint16 = 7 ∷ []
  type_bytes t_uint32 = 8 ∷ []
  type_bytes t_uint64 = 9 ∷ []
  type_bytes t_float16 = 10 ∷ []
  type_bytes t_float32 = 11 ∷ []
  type_bytes t_float64 = 12 ∷ []
  type_bytes (t_timestamp unit zone) = 13 ∷ unit_number unit ∷ optional_text_bytes zone
  type_bytes t_date32 = 14 ∷ []
  type_bytes t_date64 = 15 ∷ []
  type_bytes (t_time32 unit) = 16 ∷ unit_number unit ∷ []
  type_bytes (t_time64 unit) = 17 ∷ unit_number unit ∷ []
  type_bytes (t_duration unit) = 18 ∷ unit_number unit ∷ []
  type_bytes (t_interval unit) = 19 ∷ interval_number unit ∷ []
  type_bytes t_binary = 20 ∷ []
  type_bytes (t_fixed_size_binary size) = 21 ∷ size_bytes size
  type_bytes t_large_binary = 22 ∷ []
  type_bytes t_utf8 = 23 ∷ []
  type_bytes t_large_utf8 = 24 ∷ []
  type_bytes (t_list item) = 25 ∷ field_bytes item
  type_bytes (t_fixed_size_list item size) = 26 ∷ (field_bytes item ++ size_bytes size)
  type_bytes (t_large_list item) = 27 ∷ field_bytes item
  type_bytes (t_struct fields) = 28 ∷ (count_bytes (count fields) ++ fields_bytes fields)
  type_bytes (t_union fields ids sparse) = 29 ∷ ((count_bytes (count fields) ++ fields_bytes fields) ++ (ids_bytes ids ++ truth_bytes sparse))
  type_bytes (t_map entry sorted) = 30 ∷ (field_bytes entry ++ truth_bytes sorted)
  type_bytes (t_dictionary key value sorted) = 31 ∷ key_number key ∷ (type_bytes value ++ truth_bytes sorted)
  type_bytes (t_decimal precision scale) = 32 ∷ (size_bytes precision ++ size_bytes scale)
  type_bytes (t_decimal256 precision scale) = 33 ∷ (size_bytes precision ++ size_bytes scale)
  type_bytes (t_extension name inner metadata) = 34 ∷ (text_bytes name ++ (type_bytes inner ++ optional_text_bytes metadata))

  -- the name, whether it may be null, the type and the metadata
  pub field_bytes : FieldTree → List ℕ
  field_bytes (field name type nullable metadata) = text_bytes name ++ (truth_bytes nullable ++ (type_bytes type ++ metadata_bytes metadata))

  pub fields_bytes : FieldTrees → List ℕ
  fields_bytes no_fields = []
  fields_bytes (more_fields f fs) = field_bytes f ++ fields_bytes fs

abbrev pub plain_bytes : SchemaTree → List ℕ
plain_bytes s = (count_bytes (count s.fields) ++ fields_bytes s.fields) ++ metadata_bytes s.metadata
