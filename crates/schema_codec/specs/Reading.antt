-- The bytes of a schema, read from left to right.
use Rattle.std.specs.Prelude.{ℕ, zero, suc, ℤ, List, [], ◌∷◌, length, take, drop, Bool, true, false, nat_lt, Option, Some, None, slice_get, if◌then◌else◌}
use Rattle.std.specs.Int.{w32, w64, from_le_bytes, cast_signed}
use Rattle.std.specs.Str.{is_utf8}
use Rattle.columns_core.specs.declared.types.TimeUnit.{TimeUnit}
use Rattle.columns_core.specs.declared.types.IntervalUnit.{IntervalUnit}
use Rattle.columns_core.specs.declared.types.IntegerType.{IntegerType}
use Rattle.columns_core.specs.Meta.{Meta}
use Rattle.columns_core.specs.Tree.{TypeTree, t_timestamp, t_time32, t_time64, t_duration, t_interval, t_fixed_size_binary, t_list, t_fixed_size_list, t_large_list, t_struct, t_union, t_map, t_dictionary, t_decimal, t_decimal256, t_extension, FieldTree, field, FieldTrees}
use Rattle.columns_core.specs.View.{SchemaTree, fields_of}
use Rattle.schema_codec.specs.declared.tag.Tag.{Tag}
use Rattle.schema_codec.specs.declared.tag.Tag.TheVariants.{Plain, Leaf, Nested}
use Rattle.schema_codec.specs.declared.tag.Measured.{Measured}
use Rattle.schema_codec.specs.declared.tag.Measured.TheVariants as measured
use Rattle.schema_codec.specs.declared.tag.Container.{Container}
use Rattle.schema_codec.specs.declared.tag.Container.TheVariants as container
use Rattle.schema_codec.specs.Ascending.{is_ascending}
use Rattle.schema_codec.specs.Ranges.{max_nesting}
use Rattle.schema_codec.specs.Parse.{◌>>=◌, Parse, under, both, known, items_at}
use Rattle.schema_codec.specs.Tags.{tag_of, simple_tree, units, interval_units, key_types}

-- ---- numbers and texts

abbrev pub byte_at : Parse ℕ
byte_at [] = None
byte_at (b ∷ bytes) = Some (b, bytes)

-- so many bytes
abbrev pub bytes_at : ℕ → Parse (List ℕ)
bytes_at n bytes = if nat_lt (length bytes) n then None else Some (take n bytes, drop n bytes)

unfoldable pub count_at : Parse ℕ
count_at = under (from_le_bytes w32) (bytes_at 4)

unfoldable pub size_at : Parse ℕ
size_at = under (from_le_bytes w64) (bytes_at 8)

abbrev pub id_at : Parse ℤ
id_at = under (cast_signed w32) count_at

-- 0 or 1, and no other byte
abbrev pub truth_of : ℕ → Option Bool
truth_of zero = Some false
truth_of (suc zero) = Some true
truth_of (suc (suc n)) = None

-- what a byte stands for
abbrev pub known_at : {A : Type 0} → (ℕ → Option A) → Parse A
known_at meaning bytes = byte_at bytes >>= λ b. known (meaning b.0) b.1

unfoldable pub truth_at : Parse Bool
truth_at = known_at truth_of

unfoldable pub unit_at : Parse TimeUnit
unit_at = known_at (slice_get units)

unfoldable pub interval_unit_at : Parse IntervalUnit
interval_unit_at = known_at (slice_get interval_units)

unfoldable pub key_type_at : Parse IntegerType
key_type_at = known_at (slice_get key_types)

unfoldable pub tag_at : Parse Tag
tag_at = known_at tag_of

-- the length, and so many bytes, which are UTF-8
unfoldable pub text_at : Parse (List ℕ)
text_at bytes = do
  n ← count_at bytes
  s ← bytes_at n.0 n.1
  if is_utf8 s.0 then Some s else None

-- a truth value, and what is there behind a true one
abbrev pub optional_at : {A : Type 0} → Parse A → Parse (Option A)
optional_at one bytes = truth_at bytes >>= λ b. if b.0 then under Some one b.1 else Some (None, b.1)

-- a count, and so many parts
abbrev pub counted_at : {A : Type 0} → Parse A → Parse (List A)
counted_at one bytes = count_at bytes >>= λ n. items_at one n.0 n.1

abbrev pub entry_at : Parse (List ℕ × List ℕ)
entry_at = both text_at text_at

-- texts under keys that ascend
unfoldable pub metadata_at : Parse Meta
metadata_at bytes = counted_at entry_at bytes >>= λ m. if is_ascending m.0 then Some m else None

unfoldable pub ids_at : Parse (Option (List ℤ))
ids_at = optional_at (counted_at id_at)

unfoldable pub optional_text_at : Parse (Option (List ℕ))
optional_text_at = optional_at text_at

-- ---- types, given how one within is read

abbrev pub made_field : List ℕ × (Bool × (TypeTree × Meta)) → FieldTree
made_field p = field p.0 p.1.1.0 p.1.0 p.1.1.1

-- the name, whether it may be null, the type and the metadata
unfoldable pub field_with : Parse TypeTree → Parse FieldTree
field_with one = under made_field (both text_at (both truth_at (both one metadata_at)))

unfoldable pub fields_with : Parse TypeTree → Parse FieldTrees
fields_with one = under fields_of (counted_at (field_with one))

-- a type without a type within
abbrev pub leaf_at : Measured → Parse TypeTree
leaf_at measured.Timestamp = under (λ p. t_timestamp p.0 p.1) (both unit_at optional_text_at)
leaf_at measured.Time32 = under t_time32 unit_at
leaf_at measured.Time64 = under t_time64 unit_at
leaf_at measured.Duration = under t_duration unit_at
leaf_at measured.Interval = under t_interval interval_unit_at
leaf_at measured.FixedSizeBinary = under t_fixed_size_binary size_at
leaf_at measured.Decimal = under (λ p. t_decimal p.0 p.1) (both size_at size_at)
leaf_at measured.Decimal256 = under (λ p. t_decimal256 p.0 p.1) (both size_at size_at)

-- a type with types within
abbrev pub nested_with : Parse TypeTree → Container → Parse TypeTree
nested_with one container.List = under t_list (field_with one)
nested_with one container.FixedSizeList = under (λ p. t_fixed_size_list p.0 p.1) (both (field_with one) size_at)
nested_with one container.LargeList = under t_large_list (field_with one)
nested_with one container.Struct = under t_struct (fields_with one)
nested_with one container.Union = under (λ p. t_union p.0 p.1.0 p.1.1) (both (fields_with one) (both ids_at truth_at))
nested_with one container.Map = under (λ p. t_map p.0 p.1) (both (field_with one) truth_at)
nested_with one container.Dictionary = under (λ p. t_dictionary p.0 p.1.0 p.1.1) (both key_type_at (both one truth_at))
nested_with one container.Extension = under (λ p. t_extension p.0 p.1.0 p.1.1) (both text_at (both one optional_text_at))

-- what stands behind a tag
abbrev pub parts_with : Parse TypeTree → Tag → Parse TypeTree
parts_with one (Plain simple) bytes = Some (simple_tree simple, bytes)
parts_with one (Leaf leaf) bytes = leaf_at leaf bytes
parts_with one (Nested container) bytes = nested_with one container bytes

-- a type that nests to at most the number
unfoldable pub type_at : ℕ → Parse TypeTree
type_at zero bytes = None
type_at (suc depth) bytes = do
  tag ← tag_at bytes
  parts_with (type_at depth) tag.0 tag.1

abbrev pub field_at : ℕ → Parse FieldTree
field_at depth = field_with (type_at depth)

abbrev pub fields_at : ℕ → Parse FieldTrees
fields_at depth = fields_with (type_at depth)

-- ---- the whole

abbrev pub made_schema : FieldTrees × Meta → SchemaTree
made_schema p = record { fields = p.0; metadata = p.1 }

unfoldable pub schema_at : Parse SchemaTree
schema_at = under made_schema (both (fields_at max_nesting) metadata_at)

-- what was read, where no byte is left over
abbrev pub whole : {A : Type 0} → Option (A × List ℕ) → Option A
whole None = None
whole (Some (x, [])) = Some x
whole (Some (x, b ∷ rest)) = None

-- the schema that the bytes spell, all of them
unfoldable pub plain_reads : List ℕ → Option SchemaTree
plain_reads bytes = whole (schema_at bytes)
