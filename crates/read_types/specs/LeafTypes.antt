-- The types whose values are read, each with the physical types of its column (Parquet format, "Types" and LogicalTypes). Of the others
-- that pages may have, dictionaries alone are not read yet.
use Rattle.std.specs.Prelude.{ℕ, Bool, true, false, ◌&&◌, ◌==◌, nat_le}
use Rattle.columns_core.specs.declared.types.TimeUnit.TheVariants.{Second, Millisecond, Microsecond, Nanosecond}
use Rattle.columns_core.specs.Tree.{TypeTree, t_int8, t_int16, t_int32, t_int64, t_uint8, t_uint16, t_uint32, t_uint64, t_timestamp, t_date32, t_date64, t_time32, t_time64, t_duration, t_binary, t_large_binary, t_utf8, t_large_utf8, t_fixed_size_binary, t_decimal, t_null, t_interval}
use Rattle.columns_core.specs.declared.types.IntervalUnit.TheVariants.{YearMonth, DayTime}
use Rattle.columns_slots.specs.Types.{is_boolean}
use Rattle.pq_tree.specs.Physical.{Physical, boolean, int32, int64, byte_array, fixed}
use Rattle.schema_fit.specs.PageTable.{is_stored_length}

-- as numbers of 32 bits
abbrev pub reads_small : TypeTree → Bool
reads_small t_int8 = true
reads_small t_int16 = true
reads_small t_int32 = true
reads_small t_uint8 = true
reads_small t_uint16 = true
reads_small t_uint32 = true
reads_small t_date32 = true
reads_small (t_time32 Second) = true
reads_small (t_time32 Millisecond) = true
reads_small (t_decimal precision scale) = true
-- whatever number stands there, it is none of its values
reads_small t_null = true
reads_small t = false

-- as numbers of 64 bits
abbrev pub reads_wide : TypeTree → Bool
reads_wide t_uint32 = true
reads_wide t_int64 = true
reads_wide t_uint64 = true
reads_wide t_date64 = true
reads_wide (t_time64 Microsecond) = true
reads_wide (t_time64 Nanosecond) = true
reads_wide (t_timestamp unit zone_name) = true
reads_wide (t_duration unit) = true
reads_wide (t_decimal precision scale) = true
reads_wide t = false

-- as byte strings
abbrev pub reads_string : TypeTree → Bool
reads_string t_utf8 = true
reads_string t_large_utf8 = true
reads_string t_binary = true
reads_string t_large_binary = true
reads_string t = false

-- as intervals: months, days and milliseconds, of which only some may be other than zero
abbrev pub reads_interval : TypeTree → Bool
reads_interval (t_interval YearMonth) = true
reads_interval (t_interval DayTime) = true
reads_interval t = false

-- as numbers of which the highest byte comes first
abbrev pub reads_decimal : TypeTree → Bool
reads_decimal (t_decimal precision scale) = true
reads_decimal t = false

-- as byte strings of so many bytes: those of the type's own size, which may be from 1 to 2^31 - 1
abbrev pub reads_chunks : ℕ → TypeTree → Bool
reads_chunks n (t_fixed_size_binary m) = (n == m) && is_stored_length m
reads_chunks n t = false

-- as so many bytes: intervals as twelve, decimals as one to sixteen, byte strings as their size says
abbrev pub reads_fixed : ℕ → TypeTree → Bool
reads_fixed n (t_interval unit) = (n == 12) && reads_interval (t_interval unit)
reads_fixed n (t_decimal precision scale) = nat_le 1 n && nat_le n 16
reads_fixed n (t_fixed_size_binary m) = reads_chunks n (t_fixed_size_binary m)
reads_fixed n t = false

-- values of a type, without its extensions, are read under this physical type
abbrev pub is_read : TypeTree → Physical → Bool
is_read t boolean = is_boolean t
is_read t int32 = reads_small t
is_read t int64 = reads_wide t
is_read t byte_array = reads_string t
is_read t (fixed n) = reads_fixed n t
is_read t p = false

-- those of a column beneath lists or structs too: decimals, intervals and byte strings of one size are read only
-- where the field's own type is theirs
abbrev pub reads_nested : TypeTree → Bool
reads_nested (t_decimal precision scale) = false
reads_nested (t_interval unit) = false
reads_nested (t_fixed_size_binary size) = false
reads_nested t = true

-- those of a required leaf too: a leaf of nulls alone is optional
abbrev pub reads_required : TypeTree → Bool
reads_required t_null = false
reads_required t = true
