-- What a column stores for a native number: the number of 32 or 64 bits with the same low bits (Parquet format, LogicalTypes).
use Rattle.std.specs.Prelude.{◌≡◌, refl, ℕ, ℤ, pos, negsuc, ◌^◌, ◌-◌, ◌<◌, ◌≤◌, Bool, true, false}
use Rattle.std.proofs.Common.{sym, true≢false, lit≤, inl, inr}
use Rattle.std.proofs.lemmas.Nat.{mod_below, pow_pos}
use Rattle.std.specs.Int.{Width, w32, w64, cast_signed}
use Rattle.shredding.specs.Slot.{Value, number}
use Rattle.shredding.specs.Shape.{Fits}
use Rattle.columns_core.specs.Shapes.{leaf_type}
use Rattle.columns_core.specs.Tree.{TypeTree, t_int8, t_int16, t_int32, t_int64, t_uint8, t_uint16, t_uint32, t_uint64, t_timestamp, t_date32, t_date64, t_time32, t_time64, t_duration, t_interval, t_decimal}
use Rattle.columns_core.specs.declared.types.IntervalUnit.TheVariants.{YearMonth}
use Rattle.columns_core.specs.Natives.{within_signed, within_unsigned, value_i8, value_i16, value_i32, value_i64, value_i128, value_u8, value_u16, value_u32, value_u64, stores_i8, stores_i16, stores_i32, stores_i64, stores_i128, stores_u8, stores_u16, stores_u32, stores_u64}
use Rattle.pq_tree.specs.Physical.{Physical, int32, int64}
use Rattle.pq_files.specs.Statistics.{has_order}
use Rattle.pq_files.specs.Stored.{IsStored}

-- a number with a sign is stored as it is
abbrev pub stored_signed : ℕ → ℤ → ℤ
stored_signed w z = within_signed w z

-- one without a sign by its bits
abbrev pub stored_unsigned : Width → ℕ → ℕ → ℤ
stored_unsigned p w n = cast_signed p (within_unsigned w n)

within_fits : (w : ℕ) (z : ℤ) → Fits w (within_signed w z)
within_fits w (pos n) = mod_below n (2 ^ (w - 1)) (pow_pos (w - 1))
within_fits w (negsuc n) = mod_below n (2 ^ (w - 1)) (pow_pos (w - 1))

below : (w n : ℕ) → within_unsigned w n < 2 ^ w
below w n = mod_below n (2 ^ w) (pow_pos w)

-- ---- the page table's value of each
pub stored_i8 : (t : TypeTree) (x : ℤ) → stores_i8 t ≡ true → has_order (leaf_type t) ≡ true → IsStored (leaf_type t) int32 (value_i8 t x) (number (stored_signed 8 x))
stored_i8 t_int8 x e h = (lit≤ tt, within_fits 8 x, refl)
stored_i8 t x e h = absurd (true≢false (sym e))

pub stored_i16 : (t : TypeTree) (x : ℤ) → stores_i16 t ≡ true → has_order (leaf_type t) ≡ true → IsStored (leaf_type t) int32 (value_i16 t x) (number (stored_signed 16 x))
stored_i16 t_int16 x e h = (lit≤ tt, within_fits 16 x, refl)
stored_i16 t x e h = absurd (true≢false (sym e))

pub stored_i32 : (t : TypeTree) (x : ℤ) → stores_i32 t ≡ true → has_order (leaf_type t) ≡ true → IsStored (leaf_type t) int32 (value_i32 t x) (number (stored_signed 32 x))
stored_i32 t_int32 x e h = (lit≤ tt, within_fits 32 x, refl)
stored_i32 t_date32 x e h = (lit≤ tt, within_fits 32 x, refl)
stored_i32 (t_time32 u) x e h = (lit≤ tt, within_fits 32 x, refl)
stored_i32 (t_interval YearMonth) x e h = absurd (true≢false (sym h))
stored_i32 t x e h = absurd (true≢false (sym e))

pub stored_i64 : (t : TypeTree) (x : ℤ) → stores_i64 t ≡ true → has_order (leaf_type t) ≡ true → IsStored (leaf_type t) int64 (value_i64 t x) (number (stored_signed 64 x))
stored_i64 t_int64 x e h = (refl, within_fits 64 x, refl)
stored_i64 t_date64 x e h = (refl, within_fits 64 x, refl)
stored_i64 (t_time64 u) x e h = (refl, within_fits 64 x, refl)
stored_i64 (t_timestamp u z) x e h = (refl, within_fits 64 x, refl)
stored_i64 (t_duration u) x e h = (refl, within_fits 64 x, refl)
stored_i64 t x e h = absurd (true≢false (sym e))

pub stored_u8 : (t : TypeTree) (x : ℕ) → stores_u8 t ≡ true → has_order (leaf_type t) ≡ true → IsStored (leaf_type t) int32 (value_u8 t x) (number (stored_unsigned w32 8 x))
stored_u8 t_uint8 x e h = (lit≤ tt, below 8 x, refl)
stored_u8 t x e h = absurd (true≢false (sym e))

pub stored_u16 : (t : TypeTree) (x : ℕ) → stores_u16 t ≡ true → has_order (leaf_type t) ≡ true → IsStored (leaf_type t) int32 (value_u16 t x) (number (stored_unsigned w32 16 x))
stored_u16 t_uint16 x e h = (lit≤ tt, below 16 x, refl)
stored_u16 t x e h = absurd (true≢false (sym e))

pub stored_u32 : (t : TypeTree) (x : ℕ) → stores_u32 t ≡ true → has_order (leaf_type t) ≡ true → IsStored (leaf_type t) int32 (value_u32 t x) (number (stored_unsigned w32 32 x))
stored_u32 t_uint32 x e h = (lit≤ tt, below 32 x, refl)
stored_u32 t x e h = absurd (true≢false (sym e))

pub wide_u32 : (t : TypeTree) (x : ℕ) → stores_u32 t ≡ true → has_order (leaf_type t) ≡ true → IsStored (leaf_type t) int64 (value_u32 t x) (number (stored_unsigned w64 32 x))
wide_u32 t_uint32 x e h = (inl refl, below 32 x, refl)
wide_u32 t x e h = absurd (true≢false (sym e))

pub stored_u64 : (t : TypeTree) (x : ℕ) → stores_u64 t ≡ true → has_order (leaf_type t) ≡ true → IsStored (leaf_type t) int64 (value_u64 t x) (number (stored_unsigned w64 64 x))
stored_u64 t_uint64 x e h = (inr refl, below 64 x, refl)
stored_u64 t x e h = absurd (true≢false (sym e))

-- a decimal where it fits
pub small_decimal : (t : TypeTree) (x : ℤ) → Fits 32 (within_signed 128 x) → stores_i128 t ≡ true → has_order (leaf_type t) ≡ true → IsStored (leaf_type t) int32 (value_i128 t x) (number (stored_signed 128 x))
small_decimal (t_decimal p s) x f e h = (f, refl)
small_decimal t x f e h = absurd (true≢false (sym e))

pub wide_decimal : (t : TypeTree) (x : ℤ) → Fits 64 (within_signed 128 x) → stores_i128 t ≡ true → has_order (leaf_type t) ≡ true → IsStored (leaf_type t) int64 (value_i128 t x) (number (stored_signed 128 x))
wide_decimal (t_decimal p s) x f e h = (f, refl)
wide_decimal t x f e h = absurd (true≢false (sym e))
