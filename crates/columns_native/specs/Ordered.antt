-- The stored numbers of each native type as they are ordered: as numbers, within the range of their type.
use Rattle.std.specs.Prelude.{◌≡◌, refl, ℕ, ℤ, pos, Bool, true, false}
use Rattle.std.proofs.Common.{sym, true≢false}
use Rattle.shredding.specs.Slot.{Value, number}
use Rattle.columns_core.specs.Shapes.{leaf_type}
use Rattle.columns_core.specs.Tree.{TypeTree, t_int8, t_int16, t_int32, t_int64, t_uint8, t_uint16, t_uint32, t_uint64, t_timestamp, t_date32, t_date64, t_time32, t_time64, t_duration, t_interval, t_decimal}
use Rattle.columns_core.specs.declared.types.IntervalUnit.TheVariants.{YearMonth}
use Rattle.columns_core.specs.Natives.{within_signed, within_unsigned, value_i8, value_i16, value_i32, value_i64, value_i128, value_u8, value_u16, value_u32, value_u64, stores_i8, stores_i16, stores_i32, stores_i64, stores_i128, stores_u8, stores_u16, stores_u32, stores_u64}
use Rattle.pq_files.specs.Statistics.{has_order}

abbrev pub signed_order : ℕ → ℤ → ℤ
signed_order w z = within_signed w z

abbrev pub unsigned_order : ℕ → ℕ → ℤ
unsigned_order w n = pos (within_unsigned w n)

-- ---- where the type has an order, a value is its number
pub ordered_i8 : (t : TypeTree) (x : ℤ) → stores_i8 t ≡ true → has_order (leaf_type t) ≡ true → value_i8 t x ≡ number (signed_order 8 x)
ordered_i8 t x e h = refl

pub ordered_i16 : (t : TypeTree) (x : ℤ) → stores_i16 t ≡ true → has_order (leaf_type t) ≡ true → value_i16 t x ≡ number (signed_order 16 x)
ordered_i16 t x e h = refl

pub ordered_i32 : (t : TypeTree) (x : ℤ) → stores_i32 t ≡ true → has_order (leaf_type t) ≡ true → value_i32 t x ≡ number (signed_order 32 x)
ordered_i32 t_int32 x e h = refl
ordered_i32 t_date32 x e h = refl
ordered_i32 (t_time32 u) x e h = refl
ordered_i32 (t_interval YearMonth) x e h = absurd (true≢false (sym h))
ordered_i32 t x e h = absurd (true≢false (sym e))

pub ordered_i64 : (t : TypeTree) (x : ℤ) → stores_i64 t ≡ true → has_order (leaf_type t) ≡ true → value_i64 t x ≡ number (signed_order 64 x)
ordered_i64 t x e h = refl

pub ordered_i128 : (t : TypeTree) (x : ℤ) → stores_i128 t ≡ true → has_order (leaf_type t) ≡ true → value_i128 t x ≡ number (signed_order 128 x)
ordered_i128 t x e h = refl

pub ordered_u8 : (t : TypeTree) (x : ℕ) → stores_u8 t ≡ true → has_order (leaf_type t) ≡ true → value_u8 t x ≡ number (unsigned_order 8 x)
ordered_u8 t x e h = refl

pub ordered_u16 : (t : TypeTree) (x : ℕ) → stores_u16 t ≡ true → has_order (leaf_type t) ≡ true → value_u16 t x ≡ number (unsigned_order 16 x)
ordered_u16 t x e h = refl

pub ordered_u32 : (t : TypeTree) (x : ℕ) → stores_u32 t ≡ true → has_order (leaf_type t) ≡ true → value_u32 t x ≡ number (unsigned_order 32 x)
ordered_u32 t x e h = refl

pub ordered_u64 : (t : TypeTree) (x : ℕ) → stores_u64 t ≡ true → has_order (leaf_type t) ≡ true → value_u64 t x ≡ number (unsigned_order 64 x)
ordered_u64 t x e h = refl
