-- A schema as the tables of a message (Arrow's Schema.fbs and Message.fbs), and as bytes.
use Rattle.std.specs.Prelude.{ℕ, suc, ℤ, ◌+◌, nat_le, List, [], ◌∷◌, ◌++◌, Bool, true, false, ◌&&◌, not, Option, Some, None, if◌then◌else◌}
use Rattle.columns_core.specs.declared.types.IntegerType.{IntegerType}
use Rattle.columns_core.specs.declared.types.IntegerType.TheVariants as keys
use Rattle.columns_core.specs.Meta.{Meta}
use Rattle.columns_core.specs.Tree.{TypeTree, t_int8, t_int16, t_int32, t_int64, t_uint8, t_uint16, t_uint32, t_uint64, t_float16, t_float32, t_float64, t_timestamp, t_date32, t_date64, t_time32, t_time64, t_duration, t_interval, t_fixed_size_binary, t_list, t_fixed_size_list, t_large_list, t_struct, t_union, t_map, t_dictionary, t_decimal, t_decimal256, t_extension, FieldTree, field, FieldTrees, no_fields, more_fields}
use Rattle.columns_core.specs.View.{SchemaTree}
use Rattle.schema_codec.specs.Spelling.{plain_bytes, count_bytes}
use Rattle.schema_codec.specs.Tags.{unit_number, interval_number}
use Rattle.schema_fb.specs.Extensions.{holds_key, carried}
use Rattle.schema_fb.specs.Layout.{Cell, absent, number, below, Cells, no_cells, more_cells, Object, text, numbers, vector, table, Objects, no_objects, more_objects, object_bytes, front}
use Rattle.schema_fb.specs.Tags.{tag_number, width, is_signed}

abbrev pub truth : Bool → Cell
truth b = number (if b then 1 else 0)

abbrev pub optional_text : Option (List ℕ) → Cell
optional_text None = absent
optional_text (Some bytes) = below (text bytes)

abbrev pub optional_numbers : Option (List ℤ) → Cell
optional_numbers None = absent
optional_numbers (Some ids) = below (numbers ids)

abbrev pub one : Cell → Cells
one c = more_cells c no_cells

abbrev pub two : Cell → Cell → Cells
two c d = more_cells c (one d)

abbrev pub three : Cell → Cell → Cell → Cells
three c d e = more_cells c (two d e)

abbrev pub only : Object → Objects
only o = more_objects o no_objects

-- ---- metadata

abbrev pub key_value : List ℕ × List ℕ → Object
key_value e = table (two (below (text e.0)) (below (text e.1)))

abbrev pub key_values : Meta → Objects
key_values [] = no_objects
key_values (e ∷ es) = more_objects (key_value e) (key_values es)

-- the vector of the entries, nothing where there is none
abbrev pub custom_metadata : Meta → Cell
custom_metadata [] = absent
custom_metadata (e ∷ es) = below (vector (key_values (e ∷ es)))

-- ---- types

-- Int
abbrev pub integer : IntegerType → Cells
integer key = two (number (width key)) (truth (is_signed key))

-- the slots of a type's table; a dictionary has those of its values, and an extension those of the type within
abbrev pub type_cells : TypeTree → Cells
type_cells t_int8 = integer keys.Int8
type_cells t_int16 = integer keys.Int16
type_cells t_int32 = integer keys.Int32
type_cells t_int64 = integer keys.Int64
type_cells t_uint8 = integer keys.UInt8
type_cells t_uint16 = integer keys.UInt16
type_cells t_uint32 = integer keys.UInt32
type_cells t_uint64 = integer keys.UInt64
type_cells t_float16 = one (number 0)
type_cells t_float32 = one (number 1)
type_cells t_float64 = one (number 2)
type_cells (t_decimal precision scale) = three (number precision) (number scale) (number 128)
type_cells (t_decimal256 precision scale) = three (number precision) (number scale) (number 256)
type_cells t_date32 = one (number 0)
type_cells t_date64 = one (number 1)
type_cells (t_time32 unit) = two (number (unit_number unit)) (number 32)
type_cells (t_time64 unit) = two (number (unit_number unit)) (number 64)
type_cells (t_timestamp unit zone) = two (number (unit_number unit)) (optional_text zone)
type_cells (t_interval unit) = one (number (interval_number unit))
type_cells (t_duration unit) = one (number (unit_number unit))
type_cells (t_union _ ids sparse) = two (number (if sparse then 0 else 1)) (optional_numbers ids)
type_cells (t_fixed_size_binary size) = one (number size)
type_cells (t_fixed_size_list _ size) = one (number size)
type_cells (t_map _ sorted) = one (truth sorted)
type_cells (t_dictionary _ value _) = type_cells value
type_cells (t_extension _ inner _) = type_cells inner
type_cells _ = no_cells

-- ---- dictionaries: their ids number them from 0 on, a field before its children

-- the number of dictionaries in a type
abbrev mutual
  pub dictionaries : TypeTree → ℕ
  dictionaries (t_list item) = field_dictionaries item
  dictionaries (t_fixed_size_list item size) = field_dictionaries item
  dictionaries (t_large_list item) = field_dictionaries item
  dictionaries (t_struct fields) = fields_dictionaries fields
  dictionaries (t_union fields ids sparse) = fields_dictionaries fields
  dictionaries (t_map entry sorted) = field_dictionaries entry
  dictionaries (t_dictionary key value sorted) = suc (dictionaries value)
  dictionaries (t_extension name inner metadata) = dictionaries inner
  dictionaries _ = 0

  pub field_dictionaries : FieldTree → ℕ
  field_dictionaries (field name type nullable metadata) = dictionaries type

  pub fields_dictionaries : FieldTrees → ℕ
  fields_dictionaries no_fields = 0
  fields_dictionaries (more_fields f fs) = field_dictionaries f + fields_dictionaries fs

-- DictionaryEncoding, where the type is a dictionary or an extension over one
abbrev pub encoding : ℕ → TypeTree → Cell
encoding id (t_dictionary key value sorted) = below (table (three (number id) (below (table (integer key))) (truth sorted)))
encoding id (t_extension name inner metadata) = encoding id inner
encoding id _ = absent

-- ---- fields

-- the id after a type's own dictionary
abbrev pub next_id : ℕ → TypeTree → ℕ
next_id id (t_dictionary key value sorted) = suc id
next_id id (t_extension name inner metadata) = next_id id inner
next_id id _ = id

abbrev mutual
  -- the fields within a type, where the first dictionary in them has the id
  pub children : ℕ → TypeTree → Objects
  children id (t_list item) = only (field_object id item)
  children id (t_fixed_size_list item size) = only (field_object id item)
  children id (t_large_list item) = only (field_object id item)
  children id (t_struct fields) = fields_objects id fields
  children id (t_union fields ids sparse) = fields_objects id fields
  children id (t_map entry sorted) = only (field_object id entry)
  children id (t_dictionary key value sorted) = children id value
  children id (t_extension name inner metadata) = children id inner
  children id _ = no_objects

  -- name, nullable, type tag, type, dictionary, children, custom_metadata
  pub field_object : ℕ → FieldTree → Object
  field_object id (field name type nullable metadata) =
      table (
      more_cells (below (text name)) (
      more_cells (truth nullable) (
      more_cells (number (tag_number type)) (
      more_cells (below (table (type_cells type))) (
      more_cells (encoding id type) (
      two (below (vector (children (next_id id type) type))) (custom_metadata (carried type metadata))))))))

  pub fields_objects : ℕ → FieldTrees → Objects
  fields_objects id no_fields = no_objects
  fields_objects id (more_fields f fs) = more_objects (field_object id f) (fields_objects (id + field_dictionaries f) fs)

-- ---- the message

-- endianness, fields, custom_metadata
abbrev pub schema_object : SchemaTree → Object
schema_object s = table (three absent (below (vector (fields_objects 0 s.fields))) (custom_metadata s.metadata))

-- version 4, the header's type 1, the header, bodyLength
abbrev pub message : SchemaTree → Object
message s = table (more_cells (number 4) (three (number 1) (below (schema_object s)) absent))

-- the offset of the message, four zero bytes, the message
abbrev pub message_bytes : SchemaTree → List ℕ
message_bytes s = count_bytes (8 + front (message s)) ++ (0 ∷ 0 ∷ 0 ∷ 0 ∷ []) ++ object_bytes (message s)

-- ---- which schemas a message expresses

abbrev pub is_small : ℕ → Bool
is_small n = nat_le n 2147483647

abbrev mutual
  -- Whether a type can stand where an extension and a dictionary may stand or may not: an extension as a field's own
  -- type, a dictionary there or directly within an extension.
  pub is_type : TypeTree → Bool → Bool → Bool
  is_type (t_fixed_size_binary size) may_extend may_index = is_small size
  is_type (t_list item) may_extend may_index = is_field item
  is_type (t_fixed_size_list item size) may_extend may_index = is_field item && is_small size
  is_type (t_large_list item) may_extend may_index = is_field item
  is_type (t_struct fields) may_extend may_index = are_fields fields
  is_type (t_union fields ids sparse) may_extend may_index = are_fields fields
  is_type (t_map entry sorted) may_extend may_index = is_field entry
  is_type (t_dictionary key value sorted) may_extend may_index = may_index && is_type value false false
  is_type (t_decimal precision scale) may_extend may_index = is_small precision && is_small scale
  is_type (t_decimal256 precision scale) may_extend may_index = is_small precision && is_small scale
  is_type (t_extension name inner metadata) may_extend may_index = may_extend && is_type inner false may_index
  is_type _ may_extend may_index = true

  pub is_field : FieldTree → Bool
  is_field (field name type nullable metadata) = not (holds_key metadata) && is_type type true true

  pub are_fields : FieldTrees → Bool
  are_fields no_fields = true
  are_fields (more_fields f fs) = is_field f && are_fields fs

abbrev pub is_expressible : SchemaTree → Bool
is_expressible s = are_fields s.fields

-- ---- the bytes of a schema

-- a message, where it expresses the schema, else four zero bytes and the plain codec's bytes
unfoldable pub flat_bytes : SchemaTree → List ℕ
flat_bytes s = if is_expressible s then message_bytes s else (0 ∷ 0 ∷ 0 ∷ 0 ∷ []) ++ plain_bytes s
