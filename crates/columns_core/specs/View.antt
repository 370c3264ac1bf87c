-- The tree that a type or a field stands for.
use Rattle.std.specs.Prelude.{List, [], ◌∷◌, map, string_bytes, option_map}
use Rattle.columns_core.specs.Tree.{TypeTree, t_null, t_boolean, t_int8, t_int16, t_int32, t_int64, t_uint8, t_uint16, t_uint32, t_uint64, t_float16, t_float32, t_float64, t_timestamp, t_date32, t_date64, t_time32, t_time64, t_duration, t_interval, t_binary, t_fixed_size_binary, t_large_binary, t_utf8, t_large_utf8, t_list, t_fixed_size_list, t_large_list, t_struct, t_union, t_map, t_dictionary, t_decimal, t_decimal256, t_extension, FieldTree, field, FieldTrees, no_fields, more_fields}
use Rattle.columns_core.specs.declared.types.DataType.{DataType, fold-DataType}
use Rattle.columns_core.specs.declared.types.DataType.TheOpen.{DataType-F, Field-F}
use Rattle.columns_core.specs.declared.types.Field.{Field, fold-Field}
use Rattle.columns_core.specs.declared.types.Schema.{Schema}
use Rattle.columns_core.specs.Meta.{Meta}

abbrev pub fields_of : List FieldTree → FieldTrees
fields_of [] = no_fields
fields_of (f ∷ fs) = more_fields f (fields_of fs)

-- one level, with each type and field inside already seen as its tree
abbrev pub type_step : DataType-F TypeTree FieldTree → TypeTree
type_step DataType-F.Null = t_null
type_step DataType-F.Boolean = t_boolean
type_step DataType-F.Int8 = t_int8
type_step DataType-F.Int16 = t_int16
type_step DataType-F.Int32 = t_int32
type_step DataType-F.Int64 = t_int64
type_step DataType-F.UInt8 = t_uint8
type_step DataType-F.UInt16 = t_uint16
type_step DataType-F.UInt32 = t_uint32
type_step DataType-F.UInt64 = t_uint64
type_step DataType-F.Float16 = t_float16
type_step DataType-F.Float32 = t_float32
type_step DataType-F.Float64 = t_float64
type_step (DataType-F.Timestamp x0 x1) = t_timestamp x0 (option_map string_bytes x1)
type_step DataType-F.Date32 = t_date32
type_step DataType-F.Date64 = t_date64
type_step (DataType-F.Time32 x0) = t_time32 x0
type_step (DataType-F.Time64 x0) = t_time64 x0
type_step (DataType-F.Duration x0) = t_duration x0
type_step (DataType-F.Interval x0) = t_interval x0
type_step DataType-F.Binary = t_binary
type_step (DataType-F.FixedSizeBinary x0) = t_fixed_size_binary x0
type_step DataType-F.LargeBinary = t_large_binary
type_step DataType-F.Utf8 = t_utf8
type_step DataType-F.LargeUtf8 = t_large_utf8
type_step (DataType-F.List x0) = t_list x0.value
type_step (DataType-F.FixedSizeList x0 x1) = t_fixed_size_list x0.value x1
type_step (DataType-F.LargeList x0) = t_large_list x0.value
type_step (DataType-F.Struct x0) = t_struct (fields_of x0.items)
type_step (DataType-F.Union x0 x1 x2) = t_union (fields_of x0.items) (option_map (λ v. v.items) x1) x2
type_step (DataType-F.Map x0 x1) = t_map x0.value x1
type_step (DataType-F.Dictionary x0 x1 x2) = t_dictionary x0 x1.value x2
type_step (DataType-F.Decimal x0 x1) = t_decimal x0 x1
type_step (DataType-F.Decimal256 x0 x1) = t_decimal256 x0 x1
type_step (DataType-F.Extension x0 x1 x2) = t_extension (string_bytes x0) x1.value (option_map string_bytes x2)

abbrev pub field_step : Field-F TypeTree FieldTree → FieldTree
field_step f = field (string_bytes f.name) f.data_type f.is_nullable f.metadata

abbrev pub type_view : DataType → TypeTree
type_view = fold-DataType TypeTree FieldTree type_step field_step

abbrev pub field_view : Field → FieldTree
field_view = fold-Field TypeTree FieldTree type_step field_step

abbrev pub fields_view : List Field → FieldTrees
fields_view fs = fields_of (map field_view fs)

pub record SchemaTree : Type 0 where
  pub fields : FieldTrees
  pub metadata : Meta

abbrev pub schema_view : Schema → SchemaTree
schema_view s = record { fields = fields_view s.fields.items; metadata = s.metadata }
