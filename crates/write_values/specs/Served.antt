-- The types whose values are written, each with the physical types of its column (Parquet format, "Types" and LogicalTypes). Of the types
-- that pages may have, dictionaries alone are not written yet.
use Rattle.std.specs.Prelude.{ℕ, ◌==◌, nat_le, Bool, true, false, ◌&&◌, ◌||◌}
use Rattle.columns_core.specs.declared.types.IntervalUnit.TheVariants.{YearMonth, DayTime}
use Rattle.columns_core.specs.declared.types.TimeUnit.TheVariants.{Second, Millisecond, Microsecond, Nanosecond}
use Rattle.columns_core.specs.Tree.{TypeTree, t_null, t_int8, t_int16, t_int32, t_int64, t_uint8, t_uint16, t_uint32, t_uint64, t_timestamp, t_date32, t_date64, t_time32, t_time64, t_duration, t_interval, t_binary, t_fixed_size_binary, t_large_binary, t_utf8, t_large_utf8, t_decimal}
use Rattle.columns_slots.specs.Types.{is_boolean}
use Rattle.pq_tree.specs.Physical.{Physical, boolean, int32, int64, byte_array, fixed}

-- as numbers of 32 bits: nulls alone too, of which no number is stored
abbrev pub is_small : TypeTree → Bool
is_small t_null = true
is_small t_int8 = true
is_small t_int16 = true
is_small t_int32 = true
is_small t_uint8 = true
is_small t_uint16 = true
is_small t_uint32 = true
is_small t_date32 = true
is_small (t_time32 Second) = true
is_small (t_time32 Millisecond) = true
is_small t = false

-- as numbers of 64 bits
abbrev pub is_wide : TypeTree → Bool
is_wide t_uint32 = true
is_wide t_int64 = true
is_wide t_uint64 = true
is_wide t_date64 = true
is_wide (t_time64 Microsecond) = true
is_wide (t_time64 Nanosecond) = true
is_wide (t_timestamp unit zone_name) = true
is_wide (t_duration unit) = true
is_wide t = false

-- as byte strings
abbrev pub is_string : TypeTree → Bool
is_string t_utf8 = true
is_string t_large_utf8 = true
is_string t_binary = true
is_string t_large_binary = true
is_string t = false

-- intervals of months
abbrev pub are_months : TypeTree → Bool
are_months (t_interval YearMonth) = true
are_months t = false

-- as numbers of 32 or 64 bits, and as byte strings
abbrev pub is_decimal : TypeTree → Bool
is_decimal (t_decimal precision scale) = true
is_decimal t = false

-- as byte strings of this length
abbrev pub is_fixed : ℕ → TypeTree → Bool
is_fixed n (t_fixed_size_binary m) = m == n
is_fixed n (t_interval YearMonth) = 12 == n
is_fixed n (t_interval DayTime) = 12 == n
is_fixed n (t_decimal precision scale) = nat_le 1 n && nat_le n 16
is_fixed n t = false

-- values of a type, without its extensions, are written under this physical type
abbrev pub is_served : TypeTree → Physical → Bool
is_served t boolean = is_boolean t
is_served t int32 = is_small t || is_decimal t
is_served t int64 = is_wide t || is_decimal t
is_served t byte_array = is_string t
is_served t (fixed n) = is_fixed n t
is_served t p = false
