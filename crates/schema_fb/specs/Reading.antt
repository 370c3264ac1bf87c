-- A schema as a message tells it (Arrow's Schema.fbs and Message.fbs).
use Rattle.std.specs.Prelude.{ℕ, zero, suc, ◌*◌, ◌==◌, List, [], ◌∷◌, length, drop, Bool, nat_lt, nat_le, Option, Some, None, slice_get, if◌then◌else◌}
use Rattle.columns_core.specs.declared.types.IntegerType.{IntegerType}
use Rattle.columns_core.specs.declared.types.IntegerType.TheVariants as keys
use Rattle.columns_core.specs.Measures.{fields_nesting}
use Rattle.columns_core.specs.Meta.{Meta, text_at as text_under, with_text}
use Rattle.columns_core.specs.Tree.{TypeTree, t_timestamp, t_time32, t_time64, t_duration, t_interval, t_fixed_size_binary, t_list, t_fixed_size_list, t_large_list, t_struct, t_union, t_map, t_dictionary, t_decimal, t_decimal256, FieldTree, field}
use Rattle.columns_core.specs.View.{SchemaTree, fields_of}
use Rattle.schema_codec.specs.Parse.{◌>>=◌}
use Rattle.schema_codec.specs.Ranges.{max_nesting}
use Rattle.schema_codec.specs.Reading.{truth_of, plain_reads}
use Rattle.schema_codec.specs.Tags.{units, interval_units}
use Rattle.schema_fb.specs.declared.tag.Tag.{Tag}
use Rattle.schema_fb.specs.declared.tag.Tag.TheVariants.{Plain, Leaf, Nested}
use Rattle.schema_fb.specs.declared.tag.Measured.{Measured}
use Rattle.schema_fb.specs.declared.tag.Measured.TheVariants as measured
use Rattle.schema_fb.specs.declared.tag.Container.{Container}
use Rattle.schema_fb.specs.declared.tag.Container.TheVariants as container
use Rattle.schema_fb.specs.Extensions.{name_key, extended, stripped}
use Rattle.schema_fb.specs.Places.{byte_at, short_at, word_at, follow, Table, table_at, slot, at_slot, number_in, table_in, spend, over, text_in, optional_text_in, numbers_in, items_in}
use Rattle.schema_fb.specs.Tags.{tag_of, simple_tree, integer_of, integer_tree, floats, dates}

-- ---- numbers with a meaning

abbrev pub truth_in : List ℕ → Table → ℕ → Option Bool
truth_in bytes table i = number_in byte_at 0 bytes table i >>= truth_of

-- a size, a precision or a scale: a number of 32 bits that is not negative
abbrev pub natural : ℕ → Option ℕ
natural n = if nat_lt 2147483647 n then None else Some n

abbrev pub natural_in : List ℕ → Table → ℕ → Option ℕ
natural_in bytes table i = number_in word_at 0 bytes table i >>= natural

-- one of a list, by its number
abbrev pub choice_in : {A : Type 0} → List A → ℕ → List ℕ → Table → ℕ → Option A
choice_in choices default bytes table i = number_in short_at default bytes table i >>= slice_get choices

unfoldable pub integer_in : List ℕ → Table → Option IntegerType
integer_in bytes table = do
  width ← number_in word_at 0 bytes table 0
  signed ← truth_in bytes table 1
  integer_of width signed

-- ---- types without types within

abbrev pub decimal_of : ℕ → ℕ → ℕ → Option TypeTree
decimal_of precision scale width =
    if width == 128 then Some (t_decimal precision scale)
    else if width == 256 then Some (t_decimal256 precision scale)
    else None

unfoldable pub decimal_in : List ℕ → Table → Option TypeTree
decimal_in bytes table = do
  precision ← natural_in bytes table 0
  scale ← natural_in bytes table 1
  width ← number_in word_at 128 bytes table 2
  decimal_of precision scale width

unfoldable pub time_in : List ℕ → Table → Option TypeTree
time_in bytes table = do
  unit ← choice_in units 1 bytes table 0
  width ← number_in word_at 32 bytes table 1
  if width == 32 then Some (t_time32 unit) else if width == 64 then Some (t_time64 unit) else None

unfoldable pub timestamp_in : List ℕ → Table → ℕ → Option (TypeTree × ℕ)
timestamp_in bytes table left = do
  unit ← choice_in units 0 bytes table 0
  over (t_timestamp unit) (optional_text_in bytes table 1 left)

-- with the count of what may still be read as it was
abbrev pub beside : {A : Type 0} → ℕ → Option A → Option (A × ℕ)
beside left read = read >>= λ x. Some (x, left)

-- a type from its table
abbrev pub leaf_in : Measured → List ℕ → Table → ℕ → Option (TypeTree × ℕ)
leaf_in measured.Int bytes table left = beside left (integer_in bytes table >>= λ key. Some (integer_tree key))
leaf_in measured.FloatingPoint bytes table left = beside left (choice_in floats 0 bytes table 0)
leaf_in measured.Decimal bytes table left = beside left (decimal_in bytes table)
leaf_in measured.Date bytes table left = beside left (choice_in dates 1 bytes table 0)
leaf_in measured.Time bytes table left = beside left (time_in bytes table)
leaf_in measured.Timestamp bytes table left = timestamp_in bytes table left
leaf_in measured.Interval bytes table left = beside left (choice_in interval_units 0 bytes table 0 >>= λ unit. Some (t_interval unit))
leaf_in measured.FixedSizeBinary bytes table left = beside left (natural_in bytes table 0 >>= λ size. Some (t_fixed_size_binary size))
leaf_in measured.Duration bytes table left = beside left (choice_in units 1 bytes table 0 >>= λ unit. Some (t_duration unit))

-- ---- types with types within, given how a field at a place is read

abbrev pub Reads : Type 0 → Type 0
Reads A = ℕ → ℕ → Option (A × ℕ)

-- the fields in a field's slot for children
abbrev pub children_in : Reads FieldTree → List ℕ → Table → ℕ → Option (List FieldTree × ℕ)
children_in one bytes parent left = items_in one bytes parent 5 left

abbrev pub only : List FieldTree → Option FieldTree
only [] = None
only (f ∷ []) = Some f
only (f ∷ g ∷ fs) = None

-- exactly one child
unfoldable pub child_in : Reads FieldTree → List ℕ → Table → ℕ → Option (FieldTree × ℕ)
child_in one bytes parent left = children_in one bytes parent left >>= λ x. beside x.1 (only x.0)

unfoldable pub union_in : Reads FieldTree → List ℕ → Table → Table → ℕ → Option (TypeTree × ℕ)
union_in one bytes parent table left = do
  mode ← number_in short_at 0 bytes table 0
  dense ← truth_of mode
  ids ← numbers_in bytes table 1
  over (λ fields. t_union (fields_of fields) ids (if dense then Bool.false else Bool.true)) (children_in one bytes parent left)

-- a type from its field's table and from its own
abbrev pub nested_in : Container → Reads FieldTree → List ℕ → Table → Table → ℕ → Option (TypeTree × ℕ)
nested_in container.List one bytes parent table left = over t_list (child_in one bytes parent left)
nested_in container.Struct one bytes parent table left = over (λ fields. t_struct (fields_of fields)) (children_in one bytes parent left)
nested_in container.Union one bytes parent table left = union_in one bytes parent table left
nested_in container.FixedSizeList one bytes parent table left = natural_in bytes table 0 >>= λ size. over (λ item. t_fixed_size_list item size) (child_in one bytes parent left)
nested_in container.Map one bytes parent table left = truth_in bytes table 0 >>= λ sorted. over (λ entry. t_map entry sorted) (child_in one bytes parent left)
nested_in container.LargeList one bytes parent table left = over t_large_list (child_in one bytes parent left)

abbrev pub tagged_in : Tag → Reads FieldTree → List ℕ → Table → Table → ℕ → Option (TypeTree × ℕ)
tagged_in (Plain simple) one bytes parent table left = Some (simple_tree simple, left)
tagged_in (Leaf leaf) one bytes parent table left = leaf_in leaf bytes table left
tagged_in (Nested container) one bytes parent table left = nested_in container one bytes parent table left

-- the type of a field, without its dictionary and its extension
unfoldable pub type_in : Reads FieldTree → List ℕ → Table → ℕ → Option (TypeTree × ℕ)
type_in one bytes parent left = do
  number ← number_in byte_at 0 bytes parent 2
  tag ← tag_of number
  table ← table_in bytes parent 3
  tagged_in tag one bytes parent table left

-- ---- dictionaries

-- signed numbers of 32 bits where it is absent
unfoldable pub key_in : List ℕ → Table → Option IntegerType
key_in bytes table = at_slot keys.Int32 (λ place. follow bytes place >>= table_at bytes >>= integer_in bytes) (slot bytes table 1)

-- the type that a field has where this is the type of its values
unfoldable pub keyed_in : List ℕ → Table → TypeTree → Option TypeTree
keyed_in bytes parent value = at_slot value (λ place. do
  there ← follow bytes place
  table ← table_at bytes there
  key ← key_in bytes table
  sorted ← truth_in bytes table 2
  Some (t_dictionary key value sorted)) (slot bytes parent 4)

-- ---- metadata

unfoldable pub entry_at : List ℕ → Reads (List ℕ × List ℕ)
entry_at bytes place left = do
  table ← table_at bytes place
  rest ← spend 1 left
  key ← text_in bytes table 0 rest
  value ← text_in bytes table 1 key.1
  Some ((key.0, value.0), value.1)

-- put one after the other: of equal keys the last counts
abbrev pub put_all : Meta → List (List ℕ × List ℕ) → Meta
put_all m [] = m
put_all m (e ∷ es) = put_all (with_text e.0 e.1 m) es

unfoldable pub metadata_in : List ℕ → Table → ℕ → ℕ → Option (Meta × ℕ)
metadata_in bytes table i left = over (put_all []) (items_in (entry_at bytes) bytes table i left)

-- ---- fields

abbrev pub made_field : List ℕ → Bool → TypeTree → Meta → FieldTree
made_field name nullable type m = field name (extended (text_under name_key m) type m) nullable (stripped (text_under name_key m) m)

-- a field and at most so many levels of fields, itself counted
unfoldable pub field_at : List ℕ → ℕ → Reads FieldTree
field_at bytes zero place left = None
field_at bytes (suc depth) place left = do
  table ← table_at bytes place
  rest ← spend 1 left
  name ← text_in bytes table 0 rest
  nullable ← truth_in bytes table 1
  inner ← type_in (field_at bytes depth) bytes table name.1
  type ← keyed_in bytes table inner.0
  metadata ← metadata_in bytes table 6 inner.1
  Some (made_field name.0 nullable type metadata.0, metadata.1)

-- ---- the message

-- Fields, key values and bytes of texts, counted each time that they are read, are at most so many.
abbrev pub allowance : List ℕ → ℕ
allowance bytes = 16 * length bytes

abbrev pub shallow_schema : List FieldTree → Meta → Option SchemaTree
shallow_schema fields m =
    if nat_le (fields_nesting (fields_of fields)) max_nesting
    then Some (record { fields = fields_of fields; metadata = m })
    else None

-- endianness 0, which is little; fields; custom_metadata
unfoldable pub schema_in : List ℕ → Table → Option SchemaTree
schema_in bytes table = do
  endianness ← number_in short_at 0 bytes table 0
  fields ← items_in (field_at bytes max_nesting) bytes table 1 (allowance bytes)
  metadata ← metadata_in bytes table 2 fields.1
  if endianness == 0 then shallow_schema fields.0 metadata.0 else None

-- the header's type is 1, which is Schema
unfoldable pub message_at : List ℕ → ℕ → Option SchemaTree
message_at bytes place = do
  message ← table_at bytes place
  kind ← number_in byte_at 0 bytes message 1
  header ← table_in bytes message 2
  if kind == 1 then schema_in bytes header else None

-- the plain codec's reading behind four zero bytes, else the message to which the offset at the front leads
unfoldable pub flat_reads : List ℕ → Option SchemaTree
flat_reads bytes = word_at bytes 0 >>= λ offset. if offset == 0 then plain_reads (drop 4 bytes) else message_at bytes offset
