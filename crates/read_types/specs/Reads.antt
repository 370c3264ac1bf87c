-- How each kind of leaf is read (Parquet format, "Types" and LogicalTypes; Arrow columnar format, "Data Types").
use Rattle.std.specs.Prelude.{◌≡◌, ℕ, ◌^◌, ◌&&◌, nat_le, pos, true, false, Bool, Some, None, List}
use Rattle.std.specs.Int.{w32, w64, cast_unsigned}
use Rattle.std.specs.Str.{is_utf8}
use Rattle.columns_core.specs.Natives.{stores_i8, stores_i16, stores_i32, stores_i64, stores_i128, stores_u8, stores_u16, stores_u32, stores_u64, stores_days}
use Rattle.columns_core.specs.Tree.{TypeTree}
use Rattle.columns_slots.specs.Types.{is_boolean, is_null_type, is_text, is_binary}
use Rattle.pq_headline.specs.Columns.{ArrowColumn}
use Rattle.pq_tree.specs.Physical.{Physical, boolean, int32, int64, byte_array, fixed}
use Rattle.read_leaf.specs.Fixed.{loaded_days, loaded_decimal, loaded_months, stored_fixed}
use Rattle.read_leaf.specs.FixedBytes.{loaded_bytes}
use Rattle.read_leaf.specs.Numbers.{as_signed, as_unsigned, stored_numbers}
use Rattle.read_leaf.specs.PlainValues.{spelled_32, spelled_64}
use Rattle.read_leaf.specs.Strings.{stored_strings}
use Rattle.read_leaf.specs.Truths.{stored_truths}
use Rattle.read_pieces.specs.Leaves.{ReadsLeaf}
use Rattle.read_walk.specs.Values.{Stored}
use Rattle.read_types.specs.Arrays.{makes_fixed, makes_numbers}
use Rattle.read_types.specs.LeafTypes.{reads_chunks}
use Rattle.read_types.specs.declared.kind.LeafKind.{LeafKind}
use Rattle.read_types.specs.declared.kind.LeafKind.TheVariants as K

-- the physical type that the values are stored under
abbrev pub physical_of : LeafKind → Physical
physical_of K.Boolean = boolean
physical_of K.Null = int32
physical_of K.Int8 = int32
physical_of K.Int16 = int32
physical_of K.Int32 = int32
physical_of K.UInt8 = int32
physical_of K.UInt16 = int32
physical_of K.UInt32 = int32
physical_of K.Int64 = int64
physical_of K.Decimal = int32
physical_of K.WideDecimal = int64
physical_of K.WideUInt32 = int64
physical_of K.UInt64 = int64
physical_of K.Utf8 = byte_array
physical_of K.LargeUtf8 = byte_array
physical_of K.Binary = byte_array
physical_of K.LargeBinary = byte_array
physical_of (K.FixedDecimal n) = fixed n
physical_of K.Months = fixed 12
physical_of K.Days = fixed 12
physical_of (K.FixedSizeBinary n) = fixed n

-- the types of its arrays, without extensions
abbrev pub types_of : LeafKind → TypeTree → Bool
types_of K.Boolean = is_boolean
types_of K.Null = is_null_type
types_of K.Int8 = makes_numbers stores_i8
types_of K.Int16 = makes_numbers stores_i16
types_of K.Int32 = makes_numbers stores_i32
types_of K.UInt8 = makes_numbers stores_u8
types_of K.UInt16 = makes_numbers stores_u16
types_of K.UInt32 = makes_numbers stores_u32
types_of K.Int64 = makes_numbers stores_i64
types_of K.Decimal = makes_numbers stores_i128
types_of K.WideDecimal = makes_numbers stores_i128
types_of K.WideUInt32 = makes_numbers stores_u32
types_of K.UInt64 = makes_numbers stores_u64
types_of K.Utf8 = is_text false
types_of K.LargeUtf8 = is_text true
types_of K.Binary = is_binary false
types_of K.LargeBinary = is_binary true
types_of (K.FixedDecimal n) = λ t. (nat_le 1 n && nat_le n 16) && makes_fixed stores_i128 t
types_of K.Months = makes_fixed stores_i32
types_of K.Days = makes_fixed stores_days
types_of (K.FixedSizeBinary n) = reads_chunks n

-- the stored values of plain bytes, as they are loaded
abbrev pub stored_of : LeafKind → List ℕ → List Stored
stored_of K.Boolean = λ text. stored_truths text 0
stored_of K.Null = stored_numbers (λ z. None) spelled_32 4
stored_of K.Int8 = stored_numbers (as_signed 8) spelled_32 4
stored_of K.Int16 = stored_numbers (as_signed 16) spelled_32 4
stored_of K.Int32 = stored_numbers (λ z. Some z) spelled_32 4
stored_of K.UInt8 = stored_numbers (as_unsigned w32 8) spelled_32 4
stored_of K.UInt16 = stored_numbers (as_unsigned w32 16) spelled_32 4
stored_of K.UInt32 = stored_numbers (λ z. Some (pos (cast_unsigned w32 z))) spelled_32 4
stored_of K.Int64 = stored_numbers (λ z. Some z) spelled_64 8
stored_of K.Decimal = stored_numbers (λ z. Some z) spelled_32 4
stored_of K.WideDecimal = stored_numbers (λ z. Some z) spelled_64 8
stored_of K.WideUInt32 = stored_numbers (as_unsigned w64 32) spelled_64 8
stored_of K.UInt64 = stored_numbers (λ z. Some (pos (cast_unsigned w64 z))) spelled_64 8
stored_of K.Utf8 = stored_strings is_utf8
stored_of K.LargeUtf8 = stored_strings is_utf8
stored_of K.Binary = stored_strings (λ s. true)
stored_of K.LargeBinary = stored_strings (λ s. true)
stored_of (K.FixedDecimal n) = stored_fixed loaded_decimal n
stored_of K.Months = stored_fixed loaded_months 12
stored_of K.Days = stored_fixed loaded_days 12
stored_of (K.FixedSizeBinary n) = stored_fixed loaded_bytes n

-- one above the greatest number of bytes that the offsets of its arrays count; 0 for what is stored as fixed bytes, which no offsets
-- count, and 1 for what has no bytes
abbrev pub limit_of : LeafKind → ℕ
limit_of K.Utf8 = 2 ^ 31
limit_of K.LargeUtf8 = 2 ^ 63
limit_of K.Binary = 2 ^ 31
limit_of K.LargeBinary = 2 ^ 63
limit_of (K.FixedDecimal n) = 0
limit_of K.Months = 0
limit_of K.Days = 0
limit_of (K.FixedSizeBinary n) = 0
limit_of k = 1

-- a column of a kind's type is read as its values are stored
abbrev pub LeavesAreRead : Type 0
LeavesAreRead = (k : LeafKind) (c : ArrowColumn) → types_of k c.data_type ≡ true → ReadsLeaf c (physical_of k) (stored_of k) (limit_of k)
