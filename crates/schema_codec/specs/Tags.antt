-- The numbers of a schema's bytes: which number stands for which type, unit and type of keys.
use Rattle.std.specs.Prelude.{ℕ, List, [], ◌∷◌, Option, slice_get}
use Rattle.columns_core.specs.Tree.{TypeTree, t_null, t_boolean, t_int8, t_int16, t_int32, t_int64, t_uint8, t_uint16, t_uint32, t_uint64, t_float16, t_float32, t_float64, t_timestamp, t_date32, t_date64, t_time32, t_time64, t_duration, t_interval, t_binary, t_fixed_size_binary, t_large_binary, t_utf8, t_large_utf8, t_list, t_fixed_size_list, t_large_list, t_struct, t_union, t_map, t_dictionary, t_decimal, t_decimal256, t_extension}
use Rattle.columns_core.specs.declared.types.TimeUnit.{TimeUnit}
use Rattle.columns_core.specs.declared.types.TimeUnit.TheVariants.{Second, Millisecond, Microsecond, Nanosecond}
use Rattle.columns_core.specs.declared.types.IntervalUnit.{IntervalUnit}
use Rattle.columns_core.specs.declared.types.IntervalUnit.TheVariants.{YearMonth, DayTime, MonthDayNano}
use Rattle.columns_core.specs.declared.types.IntegerType.{IntegerType}
use Rattle.columns_core.specs.declared.types.IntegerType.TheVariants as keys
use Rattle.schema_codec.specs.declared.tag.Tag.{Tag}
use Rattle.schema_codec.specs.declared.tag.Tag.TheVariants.{Plain, Leaf, Nested}
use Rattle.schema_codec.specs.declared.tag.Simple.{Simple}
use Rattle.schema_codec.specs.declared.tag.Simple.TheVariants as simple
use Rattle.schema_codec.specs.declared.tag.Measured.TheVariants as measured
use Rattle.schema_codec.specs.declared.tag.Container.TheVariants as container

-- the types in the order of their tags, from 0 on
abbrev pub tags : List Tag
tags =
    Plain simple.Null ∷ Plain simple.Boolean
    ∷ Plain simple.Int8 ∷ Plain simple.Int16 ∷ Plain simple.Int32 ∷ Plain simple.Int64
    ∷ Plain simple.UInt8 ∷ Plain simple.UInt16 ∷ Plain simple.UInt32 ∷ Plain simple.UInt64
    ∷ Plain simple.Float16 ∷ Plain simple.Float32 ∷ Plain simple.Float64
    ∷ Leaf measured.Timestamp ∷ Plain simple.Date32 ∷ Plain simple.Date64
    ∷ Leaf measured.Time32 ∷ Leaf measured.Time64 ∷ Leaf measured.Duration ∷ Leaf measured.Interval
    ∷ Plain simple.Binary ∷ Leaf measured.FixedSizeBinary ∷ Plain simple.LargeBinary ∷ Plain simple.Utf8 ∷ Plain simple.LargeUtf8
    ∷ Nested container.List ∷ Nested container.FixedSizeList ∷ Nested container.LargeList
    ∷ Nested container.Struct ∷ Nested container.Union ∷ Nested container.Map ∷ Nested container.Dictionary
    ∷ Leaf measured.Decimal ∷ Leaf measured.Decimal256 ∷ Nested container.Extension ∷ []

abbrev pub tag_of : ℕ → Option Tag
tag_of n = slice_get tags n

abbrev pub simple_tree : Simple → TypeTree
simple_tree simple.Null = t_null
simple_tree simple.Boolean = t_boolean
simple_tree simple.Int8 = t_int8
simple_tree simple.Int16 = t_int16
simple_tree simple.Int32 = t_int32
simple_tree simple.Int64 = t_int64
simple_tree simple.UInt8 = t_uint8
simple_tree simple.UInt16 = t_uint16
simple_tree simple.UInt32 = t_uint32
simple_tree simple.UInt64 = t_uint64
simple_tree simple.Float16 = t_float16
simple_tree simple.Float32 = t_float32
simple_tree simple.Float64 = t_float64
simple_tree simple.Date32 = t_date32
simple_tree simple.Date64 = t_date64
simple_tree simple.Binary = t_binary
simple_tree simple.LargeBinary = t_large_binary
simple_tree simple.Utf8 = t_utf8
simple_tree simple.LargeUtf8 = t_large_utf8

-- the units in the order of their numbers
abbrev pub units : List TimeUnit
units = Second ∷ Millisecond ∷ Microsecond ∷ Nanosecond ∷ []

abbrev pub unit_number : TimeUnit → ℕ
unit_number Second = 0
unit_number Millisecond = 1
unit_number Microsecond = 2
unit_number Nanosecond = 3

abbrev pub interval_units : List IntervalUnit
interval_units = YearMonth ∷ DayTime ∷ MonthDayNano ∷ []

abbrev pub interval_number : IntervalUnit → ℕ
interval_number YearMonth = 0
interval_number DayTime = 1
interval_number MonthDayNano = 2

-- the types of a dictionary's keys in the order of their numbers
abbrev pub key_types : List IntegerType
key_types = keys.Int8 ∷ keys.Int16 ∷ keys.Int32 ∷ keys.Int64 ∷ keys.UInt8 ∷ keys.UInt16 ∷ keys.UInt32 ∷ keys.UInt64 ∷ []

abbrev pub key_number : IntegerType → ℕ
key_number keys.Int8 = 0
key_number keys.Int16 = 1
key_number keys.Int32 = 2
key_number keys.Int64 = 3
key_number keys.UInt8 = 4
key_number keys.UInt16 = 5
key_number keys.UInt32 = 6
key_number keys.UInt64 = 7

-- the tag of a type
abbrev pub tag_number : TypeTree → ℕ
tag_number t_null = 0
tag_number t_boolean = 1
tag_number t_int8 = 2
tag_number t_int16 = 3
tag_number t_int32 = 4
tag_number t_int64 = 5
tag_number t_uint8 = 6
tag_number t_uint16 = 7
tag_number t_uint32 = 8
tag_number t_uint64 = 9
tag_number t_float16 = 10
tag_number t_float32 = 11
tag_number t_float64 = 12
tag_number (t_timestamp _ _) = 13
tag_number t_date32 = 14
tag_number t_date64 = 15
tag_number (t_time32 _) = 16
tag_number (t_time64 _) = 17
tag_number (t_duration _) = 18
tag_number (t_interval _) = 19
tag_number t_binary = 20
tag_number (t_fixed_size_binary _) = 21
tag_number t_large_binary = 22
tag_number t_utf8 = 23
tag_number t_large_utf8 = 24
tag_number (t_list _) = 25
tag_number (t_fixed_size_list _ _) = 26
tag_number (t_large_list _) = 27
tag_number (t_struct _) = 28
tag_number (t_union _ _ _) = 29
tag_number (t_map _ _) = 30
tag_number (t_dictionary _ _ _) = 31
tag_number (t_decimal _ _) = 32
tag_number (t_decimal256 _ _) = 33
tag_number (t_extension _ _ _) = 34
