-- The numbers of a message (Arrow's Schema.fbs): which tag stands for which type, and how wide numbers are.
use Rattle.std.specs.Prelude.{ℕ, zero, suc, ◌==◌, List, [], ◌∷◌, Bool, true, false, Option, Some, None, slice_get, if◌then◌else◌}
use Rattle.columns_core.specs.declared.types.IntegerType.{IntegerType}
use Rattle.columns_core.specs.declared.types.IntegerType.TheVariants as keys
use Rattle.columns_core.specs.Tree.{TypeTree, t_null, t_boolean, t_int8, t_int16, t_int32, t_int64, t_uint8, t_uint16, t_uint32, t_uint64, t_float16, t_float32, t_float64, t_timestamp, t_date32, t_date64, t_time32, t_time64, t_duration, t_interval, t_binary, t_fixed_size_binary, t_large_binary, t_utf8, t_large_utf8, t_list, t_fixed_size_list, t_large_list, t_struct, t_union, t_map, t_dictionary, t_decimal, t_decimal256, t_extension}
use Rattle.schema_fb.specs.declared.tag.Tag.{Tag}
use Rattle.schema_fb.specs.declared.tag.Tag.TheVariants.{Plain, Leaf, Nested}
use Rattle.schema_fb.specs.declared.tag.Simple.{Simple}
use Rattle.schema_fb.specs.declared.tag.Simple.TheVariants as simple
use Rattle.schema_fb.specs.declared.tag.Measured.TheVariants as measured
use Rattle.schema_fb.specs.declared.tag.Container.TheVariants as container

-- the types in the order of their tags, from 1 on
abbrev pub tags : List Tag
tags =
    Plain simple.Null ∷ Leaf measured.Int ∷ Leaf measured.FloatingPoint
    ∷ Plain simple.Binary ∷ Plain simple.Utf8 ∷ Plain simple.Bool
    ∷ Leaf measured.Decimal ∷ Leaf measured.Date ∷ Leaf measured.Time ∷ Leaf measured.Timestamp ∷ Leaf measured.Interval
    ∷ Nested container.List ∷ Nested container.Struct ∷ Nested container.Union
    ∷ Leaf measured.FixedSizeBinary ∷ Nested container.FixedSizeList ∷ Nested container.Map
    ∷ Leaf measured.Duration ∷ Plain simple.LargeBinary ∷ Plain simple.LargeUtf8 ∷ Nested container.LargeList ∷ []

abbrev pub tag_of : ℕ → Option Tag
tag_of zero = None
tag_of (suc n) = slice_get tags n

-- the number of a type's tag; a dictionary has that of its values, and an extension that of the type within
abbrev pub tag_number : TypeTree → ℕ
tag_number t_null = 1
tag_number t_int8 = 2
tag_number t_int16 = 2
tag_number t_int32 = 2
tag_number t_int64 = 2
tag_number t_uint8 = 2
tag_number t_uint16 = 2
tag_number t_uint32 = 2
tag_number t_uint64 = 2
tag_number t_float16 = 3
tag_number t_float32 = 3
tag_number t_float64 = 3
tag_number t_binary = 4
tag_number t_utf8 = 5
tag_number t_boolean = 6
tag_number (t_decimal _ _) = 7
tag_number (t_decimal256 _ _) = 7
tag_number t_date32 = 8
tag_number t_date64 = 8
tag_number (t_time32 _) = 9
tag_number (t_time64 _) = 9
tag_number (t_timestamp _ _) = 10
tag_number (t_interval _) = 11
tag_number (t_list _) = 12
tag_number (t_struct _) = 13
tag_number (t_union _ _ _) = 14
tag_number (t_fixed_size_binary _) = 15
tag_number (t_fixed_size_list _ _) = 16
tag_number (t_map _ _) = 17
tag_number (t_duration _) = 18
tag_number t_large_binary = 19
tag_number t_large_utf8 = 20
tag_number (t_large_list _) = 21
tag_number (t_dictionary _ value _) = tag_number value
tag_number (t_extension _ inner _) = tag_number inner

abbrev pub simple_tree : Simple → TypeTree
simple_tree simple.Null = t_null
simple_tree simple.Binary = t_binary
simple_tree simple.Utf8 = t_utf8
simple_tree simple.Bool = t_boolean
simple_tree simple.LargeBinary = t_large_binary
simple_tree simple.LargeUtf8 = t_large_utf8

-- ---- whole numbers

abbrev pub width : IntegerType → ℕ
width keys.Int8 = 8
width keys.Int16 = 16
width keys.Int32 = 32
width keys.Int64 = 64
width keys.UInt8 = 8
width keys.UInt16 = 16
width keys.UInt32 = 32
width keys.UInt64 = 64

abbrev pub is_signed : IntegerType → Bool
is_signed keys.Int8 = true
is_signed keys.Int16 = true
is_signed keys.Int32 = true
is_signed keys.Int64 = true
is_signed keys.UInt8 = false
is_signed keys.UInt16 = false
is_signed keys.UInt32 = false
is_signed keys.UInt64 = false

-- the numbers of so many bits
abbrev pub integer_of : ℕ → Bool → Option IntegerType
integer_of n signed =
    if n == 8 then Some (if signed then keys.Int8 else keys.UInt8)
    else if n == 16 then Some (if signed then keys.Int16 else keys.UInt16)
    else if n == 32 then Some (if signed then keys.Int32 else keys.UInt32)
    else if n == 64 then Some (if signed then keys.Int64 else keys.UInt64)
    else None

abbrev pub integer_tree : IntegerType → TypeTree
integer_tree keys.Int8 = t_int8
integer_tree keys.Int16 = t_int16
integer_tree keys.Int32 = t_int32
integer_tree keys.Int64 = t_int64
integer_tree keys.UInt8 = t_uint8
integer_tree keys.UInt16 = t_uint16
integer_tree keys.UInt32 = t_uint32
integer_tree keys.UInt64 = t_uint64

-- floating-point numbers in the order of their precisions
abbrev pub floats : List TypeTree
floats = t_float16 ∷ t_float32 ∷ t_float64 ∷ []

-- dates in the order of their units
abbrev pub dates : List TypeTree
dates = t_date32 ∷ t_date64 ∷ []
