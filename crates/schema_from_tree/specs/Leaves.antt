-- The Arrow type of a leaf (Parquet format, "Types" and LogicalTypes; Arrow columnar format, "Data Types"): by its logical type where a rule says so, then by its converted type, and else plainly.
use Rattle.std.specs.Prelude.{ℕ, List, Bool, true, false, Option, Some, None, unwrap_or, codes, ◌==◌, if◌then◌else◌}
use Rattle.std.specs.Option.{option_or, option_and_then}
use Rattle.columns_core.specs.declared.types.TimeUnit.{TimeUnit as Unit}
use Rattle.columns_core.specs.declared.types.TimeUnit.TheVariants.{Millisecond, Microsecond, Nanosecond}
use Rattle.columns_core.specs.declared.types.IntervalUnit.TheVariants.{DayTime}
use Rattle.columns_core.specs.Tree.{TypeTree, t_boolean, t_int8, t_int16, t_int32, t_int64, t_uint8, t_uint16, t_uint32, t_uint64, t_float32, t_float64, t_timestamp, t_date32, t_time32, t_time64, t_interval, t_binary, t_fixed_size_binary, t_utf8, t_decimal}
use Rattle.pq_tree.specs.Physical.{Physical, boolean, int32, int64, int96, float, double, byte_array, fixed}
use Rattle.pq_tree.specs.Types.{Info, TimeUnit, Logical, Converted}
use Rattle.pq_tree.specs.Types.TimeUnit.{millis, micros, nanos}

-- ---- INT32

abbrev pub integer_of_32 : ℕ → Bool → TypeTree
integer_of_32 width true = if width == 8 then t_int8 else (if width == 16 then t_int16 else t_int32)
integer_of_32 width false = if width == 8 then t_uint8 else (if width == 16 then t_uint16 else (if width == 32 then t_uint32 else t_int32))

abbrev pub time_of_32 : TimeUnit → TypeTree
time_of_32 millis = t_time32 Millisecond
time_of_32 unit = t_int32

abbrev pub logical_32 : Logical → Option TypeTree
logical_32 (Logical.integer width signed) = Some (integer_of_32 width signed)
logical_32 (Logical.decimal precision scale) = Some (t_decimal precision scale)
logical_32 Logical.date = Some t_date32
logical_32 (Logical.time adjusted unit) = Some (time_of_32 unit)
logical_32 other = None

abbrev pub converted_32 : Converted → Option TypeTree
converted_32 (Converted.unsigned width) = Some (integer_of_32 width false)
converted_32 (Converted.signed width) = Some (integer_of_32 width true)
converted_32 Converted.date = Some t_date32
converted_32 Converted.time_millis = Some (t_time32 Millisecond)
converted_32 (Converted.decimal precision scale) = Some (t_decimal precision scale)
converted_32 other = None

-- ---- INT64

abbrev pub integer_of_64 : ℕ → Bool → TypeTree
integer_of_64 width true = t_int64
integer_of_64 width false = if width == 64 then t_uint64 else t_int64

abbrev pub time_of_64 : TimeUnit → TypeTree
time_of_64 millis = t_int64
time_of_64 micros = t_time64 Microsecond
time_of_64 nanos = t_time64 Nanosecond

abbrev pub unit_of : TimeUnit → Unit
unit_of millis = Millisecond
unit_of micros = Microsecond
unit_of nanos = Nanosecond

-- the zone of a timestamp: UTC where it is adjusted to it, else none
abbrev pub zone_of : Bool → Option (List ℕ)
zone_of true = Some (codes "+00:00")
zone_of false = None

abbrev pub logical_64 : Logical → Option TypeTree
logical_64 (Logical.integer width signed) = Some (integer_of_64 width signed)
logical_64 (Logical.timestamp adjusted unit) = Some (t_timestamp (unit_of unit) (zone_of adjusted))
logical_64 (Logical.time adjusted unit) = Some (time_of_64 unit)
logical_64 (Logical.decimal precision scale) = Some (t_decimal precision scale)
logical_64 other = None

abbrev pub converted_64 : Converted → Option TypeTree
converted_64 Converted.time_micros = Some (t_time64 Microsecond)
converted_64 Converted.timestamp_millis = Some (t_timestamp Millisecond None)
converted_64 Converted.timestamp_micros = Some (t_timestamp Microsecond None)
converted_64 (Converted.signed width) = Some (integer_of_64 width true)
converted_64 (Converted.unsigned width) = Some (integer_of_64 width false)
converted_64 (Converted.decimal precision scale) = Some (t_decimal precision scale)
converted_64 other = None

-- ---- BYTE_ARRAY

abbrev pub logical_bytes : Logical → Option TypeTree
logical_bytes Logical.string = Some t_utf8
logical_bytes Logical.json = Some t_binary
logical_bytes Logical.bson = Some t_binary
logical_bytes Logical.enum = Some t_binary
logical_bytes other = None

abbrev pub converted_bytes : Converted → Option TypeTree
converted_bytes Converted.json = Some t_binary
converted_bytes Converted.bson = Some t_binary
converted_bytes Converted.enum = Some t_binary
converted_bytes Converted.utf8 = Some t_utf8
converted_bytes other = None

-- ---- FIXED_LEN_BYTE_ARRAY

abbrev pub logical_fixed : Logical → Option TypeTree
logical_fixed (Logical.decimal precision scale) = Some (t_decimal precision scale)
logical_fixed other = None

-- Which unit an interval has, the tree does not say.
abbrev pub converted_fixed : Converted → Option TypeTree
converted_fixed (Converted.decimal precision scale) = Some (t_decimal precision scale)
converted_fixed Converted.interval = Some (t_interval DayTime)
converted_fixed other = None

-- here the converted type counts only where there is no logical type
abbrev pub fixed_of : Option Logical → Option Converted → Option TypeTree
fixed_of (Some logical) converted = logical_fixed logical
fixed_of None converted = option_and_then converted_fixed converted

-- ---- any leaf

-- the first rule that matches, by the logical and then by the converted type, and else the plain type
abbrev pub first_of_rules : (Logical → Option TypeTree) → (Converted → Option TypeTree) → TypeTree → Info → TypeTree
first_of_rules by_logical by_converted plain info =
    unwrap_or (option_or (option_and_then by_logical info.logical) (option_and_then by_converted info.converted)) plain

abbrev pub leaf_type : Info → Physical → TypeTree
leaf_type info boolean = t_boolean
leaf_type info int32 = first_of_rules logical_32 converted_32 t_int32 info
leaf_type info int64 = first_of_rules logical_64 converted_64 t_int64 info
leaf_type info int96 = t_timestamp Nanosecond None
leaf_type info float = t_float32
leaf_type info double = t_float64
leaf_type info byte_array = first_of_rules logical_bytes converted_bytes t_binary info
leaf_type info (fixed n) = unwrap_or (fixed_of info.logical info.converted) (t_fixed_size_binary n)
