-- How the values of an Arrow type are stored (Parquet format, "Types" and LogicalTypes; Arrow columnar format, "Data Types"), and the units of times.
use Rattle.std.specs.Prelude.{ℕ, Bool, true, false, Option, Some, None, ◌&&◌, ◌==◌, nat_le, if◌then◌else◌}
use Rattle.columns_core.specs.declared.types.TimeUnit.{TimeUnit as Unit}
use Rattle.columns_core.specs.declared.types.TimeUnit.TheVariants.{Second, Millisecond, Microsecond, Nanosecond}
use Rattle.columns_core.specs.declared.types.IntervalUnit.TheVariants.{YearMonth, DayTime, MonthDayNano}
use Rattle.columns_core.specs.Shapes.{base}
use Rattle.columns_core.specs.Tree.{TypeTree, t_null, t_boolean, t_int8, t_int16, t_int32, t_int64, t_uint8, t_uint16, t_uint32, t_uint64, t_float16, t_float32, t_float64, t_timestamp, t_date32, t_date64, t_time32, t_time64, t_duration, t_interval, t_binary, t_fixed_size_binary, t_large_binary, t_utf8, t_large_utf8, t_list, t_fixed_size_list, t_large_list, t_struct, t_union, t_map, t_dictionary, t_decimal, t_decimal256, t_extension}
use Rattle.pq_tree.specs.Physical.{Physical, boolean, int32, int64, byte_array, fixed}
use Rattle.pq_tree.specs.Types.{Info, TimeUnit, Logical, Converted}
use Rattle.pq_tree.specs.Types.TimeUnit.{millis, micros, nanos}
use Rattle.schema_fit.specs.declared.page_table.Stored.{Stored}
use Rattle.schema_fit.specs.declared.page_table.Stored.TheVariants as S
use Rattle.schema_fit.specs.declared.page_table.Row.{Row}
use Rattle.schema_fit.specs.declared.page_table.Asked.{Asked}
use Rattle.schema_fit.specs.declared.page_table.Asked.TheVariants as A
use Rattle.schema_fit.specs.Skeleton.{ArrowLeaf, StoredLeaf}

-- ---- the table

-- the physical types in which such values may be stored
abbrev pub allows : Stored → Physical → Bool
allows S.Boolean boolean = true
allows S.Int32 int32 = true
allows S.Int32OrInt64 int32 = true
allows S.Int32OrInt64 int64 = true
allows S.Int64 int64 = true
allows S.ByteArray byte_array = true
allows (S.Fixed n) (fixed m) = n == m
allows S.Decimal int32 = true
allows S.Decimal int64 = true
allows S.Decimal (fixed m) = nat_le 1 m && nat_le m 16
allows stored physical = false

-- anywhere in a column, and only where the column is no more than this leaf
abbrev pub anywhere : Stored → Option Row
anywhere stored = Some (record { stored = stored; is_nested = true })

abbrev pub only_flat : Stored → Option Row
only_flat stored = Some (record { stored = stored; is_nested = false })

-- a length of fixed byte strings that a page may have: from 1 to 2^31 - 1
abbrev pub is_stored_length : ℕ → Bool
is_stored_length n = nat_le 1 n && nat_le n 2147483647

-- a page's values of a type that may be null, or not
abbrev pub value_row : Bool → TypeTree → Option Row
value_row true t_null = anywhere S.Int32
value_row is_nullable t_boolean = anywhere S.Boolean
value_row is_nullable t_int8 = anywhere S.Int32
value_row is_nullable t_int16 = anywhere S.Int32
value_row is_nullable t_uint8 = anywhere S.Int32
value_row is_nullable t_uint16 = anywhere S.Int32
value_row is_nullable t_int32 = anywhere S.Int32
value_row is_nullable t_date32 = anywhere S.Int32
value_row is_nullable (t_time32 Second) = anywhere S.Int32
value_row is_nullable (t_time32 Millisecond) = anywhere S.Int32
value_row is_nullable t_uint32 = anywhere S.Int32OrInt64
value_row is_nullable t_int64 = anywhere S.Int64
value_row is_nullable t_date64 = anywhere S.Int64
value_row is_nullable (t_duration unit) = anywhere S.Int64
value_row is_nullable (t_timestamp unit z) = anywhere S.Int64
value_row is_nullable (t_time64 Microsecond) = anywhere S.Int64
value_row is_nullable (t_time64 Nanosecond) = anywhere S.Int64
value_row is_nullable t_uint64 = anywhere S.Int64
value_row is_nullable t_utf8 = anywhere S.ByteArray
value_row is_nullable t_large_utf8 = anywhere S.ByteArray
value_row is_nullable t_binary = anywhere S.ByteArray
value_row is_nullable t_large_binary = anywhere S.ByteArray
value_row is_nullable (t_fixed_size_binary n) = if is_stored_length n then only_flat (S.Fixed n) else None
value_row is_nullable (t_decimal precision scale) = only_flat S.Decimal
value_row is_nullable (t_interval YearMonth) = only_flat (S.Fixed 12)
value_row is_nullable (t_interval DayTime) = only_flat (S.Fixed 12)
value_row false t_null = None
value_row is_nullable t_float16 = None
value_row is_nullable t_float32 = None
value_row is_nullable t_float64 = None
value_row is_nullable (t_time32 Microsecond) = None
value_row is_nullable (t_time32 Nanosecond) = None
value_row is_nullable (t_time64 Second) = None
value_row is_nullable (t_time64 Millisecond) = None
value_row is_nullable (t_interval MonthDayNano) = None
value_row is_nullable (t_decimal256 precision scale) = None
value_row is_nullable (t_list item) = None
value_row is_nullable (t_large_list item) = None
value_row is_nullable (t_fixed_size_list item size) = None
value_row is_nullable (t_struct fs) = None
value_row is_nullable (t_map entry is_sorted) = None
value_row is_nullable (t_union fs ids is_sparse) = None
value_row is_nullable (t_dictionary keys values is_sorted) = None
value_row is_nullable (t_extension name inner metadata) = None

-- The entries of a dictionary: whole numbers, dates, times, durations, timestamps, texts, bytes and fixed bytes. A dictionary of UInt64 or
-- Timestamp is no more than its leaf.
abbrev pub entry_row : TypeTree → Option Row
entry_row t_int8 = anywhere S.Int32
entry_row t_int16 = anywhere S.Int32
entry_row t_uint8 = anywhere S.Int32
entry_row t_uint16 = anywhere S.Int32
entry_row t_int32 = anywhere S.Int32
entry_row t_date32 = anywhere S.Int32
entry_row (t_time32 Second) = anywhere S.Int32
entry_row (t_time32 Millisecond) = anywhere S.Int32
entry_row t_uint32 = anywhere S.Int32OrInt64
entry_row t_int64 = anywhere S.Int64
entry_row t_date64 = anywhere S.Int64
entry_row (t_duration unit) = anywhere S.Int64
entry_row (t_time64 Microsecond) = anywhere S.Int64
entry_row (t_time64 Nanosecond) = anywhere S.Int64
entry_row t_uint64 = only_flat S.Int64
entry_row (t_timestamp unit z) = only_flat S.Int64
entry_row t_utf8 = anywhere S.ByteArray
entry_row t_large_utf8 = anywhere S.ByteArray
entry_row t_binary = anywhere S.ByteArray
entry_row t_large_binary = anywhere S.ByteArray
entry_row (t_fixed_size_binary n) = if is_stored_length n then anywhere (S.Fixed n) else None
entry_row t_null = None
entry_row t_boolean = None
entry_row t_float16 = None
entry_row t_float32 = None
entry_row t_float64 = None
entry_row (t_time32 Microsecond) = None
entry_row (t_time32 Nanosecond) = None
entry_row (t_time64 Second) = None
entry_row (t_time64 Millisecond) = None
entry_row (t_interval unit) = None
entry_row (t_decimal precision scale) = None
entry_row (t_decimal256 precision scale) = None
entry_row (t_list item) = None
entry_row (t_large_list item) = None
entry_row (t_fixed_size_list item size) = None
entry_row (t_struct fs) = None
entry_row (t_map entry is_sorted) = None
entry_row (t_union fs ids is_sparse) = None
entry_row (t_dictionary keys values is_sorted) = None
entry_row (t_extension name inner metadata) = None

-- The row of a leaf. None: values of this type are in no page.
abbrev pub row_of : ArrowLeaf → Option Row
row_of l = of l.is_nullable l.data_type
  where
    of : Bool → TypeTree → Option Row
    of is_nullable (t_dictionary keys values is_sorted) = entry_row (base values)
    of is_nullable t = value_row is_nullable t

-- ---- units

abbrev pub unit_of : TimeUnit → Unit
unit_of millis = Millisecond
unit_of micros = Microsecond
unit_of nanos = Nanosecond

-- The unit that a leaf says. The converted type counts only where there is no logical type.
abbrev pub annotated_unit : Option Logical → Option Converted → Option Unit
annotated_unit (Some (Logical.time adjusted unit)) converted = Some (unit_of unit)
annotated_unit (Some (Logical.timestamp adjusted unit)) converted = Some (unit_of unit)
annotated_unit (Some other) converted = None
annotated_unit None (Some Converted.time_millis) = Some Millisecond
annotated_unit None (Some Converted.time_micros) = Some Microsecond
annotated_unit None (Some Converted.timestamp_millis) = Some Millisecond
annotated_unit None (Some Converted.timestamp_micros) = Some Microsecond
annotated_unit None converted = None

abbrev pub value_unit : TypeTree → Option Unit
value_unit (t_time32 unit) = Some unit
value_unit (t_time64 unit) = Some unit
value_unit (t_timestamp unit z) = Some unit
value_unit t = None

abbrev pub type_unit : TypeTree → Option Unit
type_unit (t_dictionary keys values is_sorted) = value_unit (base values)
type_unit t = value_unit t

abbrev pub is_same : Unit → Unit → Bool
is_same Second Second = true
is_same Millisecond Millisecond = true
is_same Microsecond Microsecond = true
is_same Nanosecond Nanosecond = true
is_same unit other = false

-- where both say one
abbrev pub no_other_unit : Option Unit → Option Unit → Bool
no_other_unit (Some unit) (Some other) = is_same unit other
no_other_unit unit other = true

abbrev pub same_units : TypeTree → Info → Bool
same_units t info = no_other_unit (type_unit t) (annotated_unit info.logical info.converted)

-- ---- leaves

abbrev pub is_allowed : Asked → Row → Bool
is_allowed A.Nested row = row.is_nested
is_allowed asked row = true

abbrev pub go_by : Asked → Option Row → TypeTree → StoredLeaf → Bool
go_by A.Agreement None t leaf = true
go_by asked None t leaf = false
go_by asked (Some row) t leaf = is_allowed asked row && (allows row.stored leaf.physical && same_units t leaf.info)

-- Whether the leaves go together. A leaf without a row agrees with every leaf, and fits none.
abbrev pub go_together : Asked → ArrowLeaf → StoredLeaf → Bool
go_together asked l leaf = go_by asked (row_of l) l.data_type leaf
