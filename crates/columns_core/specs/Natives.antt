-- How a stored number stands for a leaf, and which types store it.
use Rattle.std.specs.Prelude.{◌≡◌, refl, ℕ, ℤ, pos, negsuc, ◌-◌, ◌/◌, ◌%◌, ◌^◌, List, [], ◌∷◌, ◌++◌, Bool, true, false}
use Rattle.std.proofs.Common.{sym, true≢false}
use Rattle.std.proofs.lemmas.Nat.{mod_below, pow_pos}
use Rattle.shredding.specs.Slot.{Value, number, bytes}
use Rattle.shredding.specs.Shape.{signed, unsigned, IsInRange}
use Rattle.columns_core.specs.Shapes.{leaf_type}
use Rattle.columns_core.specs.declared.native.DaysMs.{DaysMs}
use Rattle.columns_core.specs.declared.types.IntervalUnit.TheVariants.{YearMonth, DayTime}
use Rattle.columns_core.specs.Tree.{TypeTree, t_int8, t_int16, t_int32, t_int64, t_uint8, t_uint16, t_uint32, t_uint64, t_timestamp, t_date32, t_date64, t_time32, t_time64, t_duration, t_interval, t_decimal}

-- 32 bits in two's complement, the lowest byte first
abbrev pub two_power_32 : ℤ → ℕ
two_power_32 (pos n) = n
two_power_32 (negsuc n) = 2 ^ 32 - 1 - n

abbrev pub four_bytes : ℕ → List ℕ
four_bytes n = n % 256 ∷ n / 256 % 256 ∷ n / 65536 % 256 ∷ n / 16777216 % 256 ∷ []

-- an interval is its 12 bytes: months, days, milliseconds
abbrev pub interval_bytes : ℤ → ℤ → ℤ → List ℕ
interval_bytes months days ms = four_bytes (two_power_32 months) ++ four_bytes (two_power_32 days) ++ four_bytes (two_power_32 ms)

-- the number that w bits hold: of a number that fits, the number itself
abbrev pub within_signed : ℕ → ℤ → ℤ
within_signed w (pos n) = pos (n % 2 ^ (w - 1))
within_signed w (negsuc n) = negsuc (n % 2 ^ (w - 1))

abbrev pub within_unsigned : ℕ → ℕ → ℕ
within_unsigned w n = n % 2 ^ w

abbrev pub value_i8 : TypeTree → ℤ → Value
value_i8 t z = number (within_signed 8 z)

abbrev pub value_i16 : TypeTree → ℤ → Value
value_i16 t z = number (within_signed 16 z)

abbrev pub value_i32 : TypeTree → ℤ → Value
value_i32 (t_interval u) z = bytes (interval_bytes z (pos 0) (pos 0))
value_i32 t z = number (within_signed 32 z)

abbrev pub value_i64 : TypeTree → ℤ → Value
value_i64 t z = number (within_signed 64 z)

abbrev pub value_i128 : TypeTree → ℤ → Value
value_i128 t z = number (within_signed 128 z)

abbrev pub value_u8 : TypeTree → ℕ → Value
value_u8 t n = number (pos (within_unsigned 8 n))

abbrev pub value_u16 : TypeTree → ℕ → Value
value_u16 t n = number (pos (within_unsigned 16 n))

abbrev pub value_u32 : TypeTree → ℕ → Value
value_u32 t n = number (pos (within_unsigned 32 n))

abbrev pub value_u64 : TypeTree → ℕ → Value
value_u64 t n = number (pos (within_unsigned 64 n))

abbrev pub value_days : TypeTree → DaysMs → Value
value_days t d = bytes (interval_bytes (pos 0) d.days d.milliseconds)

abbrev pub stores_i8 : TypeTree → Bool
stores_i8 t_int8 = true
stores_i8 t = false

abbrev pub stores_i16 : TypeTree → Bool
stores_i16 t_int16 = true
stores_i16 t = false

abbrev pub stores_i32 : TypeTree → Bool
stores_i32 t_int32 = true
stores_i32 t_date32 = true
stores_i32 (t_time32 u) = true
stores_i32 (t_interval YearMonth) = true
stores_i32 t = false

abbrev pub stores_i64 : TypeTree → Bool
stores_i64 t_int64 = true
stores_i64 t_date64 = true
stores_i64 (t_time64 u) = true
stores_i64 (t_timestamp u z) = true
stores_i64 (t_duration u) = true
stores_i64 t = false

abbrev pub stores_i128 : TypeTree → Bool
stores_i128 (t_decimal p s) = true
stores_i128 t = false

abbrev pub stores_u8 : TypeTree → Bool
stores_u8 t_uint8 = true
stores_u8 t = false

abbrev pub stores_u16 : TypeTree → Bool
stores_u16 t_uint16 = true
stores_u16 t = false

abbrev pub stores_u32 : TypeTree → Bool
stores_u32 t_uint32 = true
stores_u32 t = false

abbrev pub stores_u64 : TypeTree → Bool
stores_u64 t_uint64 = true
stores_u64 t = false

abbrev pub stores_days : TypeTree → Bool
stores_days (t_interval DayTime) = true
stores_days t = false

-- ---- each value lies in the range of its type
signed_in : (w : ℕ) (z : ℤ) → IsInRange (signed w) (number (within_signed w z))
signed_in w (pos n) = mod_below n (2 ^ (w - 1)) (pow_pos (w - 1))
signed_in w (negsuc n) = mod_below n (2 ^ (w - 1)) (pow_pos (w - 1))

unsigned_in : (w : ℕ) (n : ℕ) → IsInRange (unsigned w) (number (pos (within_unsigned w n)))
unsigned_in w n = mod_below n (2 ^ w) (pow_pos w)

pub ranged_i8 : (t : TypeTree) (x : ℤ) → stores_i8 t ≡ true → IsInRange (leaf_type t) (value_i8 t x)
ranged_i8 t_int8 x e = signed_in 8 x
ranged_i8 t x e = absurd (true≢false (sym e))

pub ranged_i16 : (t : TypeTree) (x : ℤ) → stores_i16 t ≡ true → IsInRange (leaf_type t) (value_i16 t x)
ranged_i16 t_int16 x e = signed_in 16 x
ranged_i16 t x e = absurd (true≢false (sym e))

pub ranged_i32 : (t : TypeTree) (x : ℤ) → stores_i32 t ≡ true → IsInRange (leaf_type t) (value_i32 t x)
ranged_i32 t_int32 x e = signed_in 32 x
ranged_i32 t_date32 x e = signed_in 32 x
ranged_i32 (t_time32 u) x e = signed_in 32 x
ranged_i32 (t_interval YearMonth) x e = (refl, refl)
ranged_i32 t x e = absurd (true≢false (sym e))

pub ranged_i64 : (t : TypeTree) (x : ℤ) → stores_i64 t ≡ true → IsInRange (leaf_type t) (value_i64 t x)
ranged_i64 t_int64 x e = signed_in 64 x
ranged_i64 t_date64 x e = signed_in 64 x
ranged_i64 (t_time64 u) x e = signed_in 64 x
ranged_i64 (t_timestamp u z) x e = signed_in 64 x
ranged_i64 (t_duration u) x e = signed_in 64 x
ranged_i64 t x e = absurd (true≢false (sym e))

pub ranged_i128 : (t : TypeTree) (x : ℤ) → stores_i128 t ≡ true → IsInRange (leaf_type t) (value_i128 t x)
ranged_i128 (t_decimal p s) x e = signed_in 128 x
ranged_i128 t x e = absurd (true≢false (sym e))

pub ranged_u8 : (t : TypeTree) (x : ℕ) → stores_u8 t ≡ true → IsInRange (leaf_type t) (value_u8 t x)
ranged_u8 t_uint8 x e = unsigned_in 8 x
ranged_u8 t x e = absurd (true≢false (sym e))

pub ranged_u16 : (t : TypeTree) (x : ℕ) → stores_u16 t ≡ true → IsInRange (leaf_type t) (value_u16 t x)
ranged_u16 t_uint16 x e = unsigned_in 16 x
ranged_u16 t x e = absurd (true≢false (sym e))

pub ranged_u32 : (t : TypeTree) (x : ℕ) → stores_u32 t ≡ true → IsInRange (leaf_type t) (value_u32 t x)
ranged_u32 t_uint32 x e = unsigned_in 32 x
ranged_u32 t x e = absurd (true≢false (sym e))

pub ranged_u64 : (t : TypeTree) (x : ℕ) → stores_u64 t ≡ true → IsInRange (leaf_type t) (value_u64 t x)
ranged_u64 t_uint64 x e = unsigned_in 64 x
ranged_u64 t x e = absurd (true≢false (sym e))

pub ranged_days : (t : TypeTree) (x : DaysMs) → stores_days t ≡ true → IsInRange (leaf_type t) (value_days t x)
ranged_days (t_interval DayTime) x e = (refl, refl)
ranged_days t x e = absurd (true≢false (sym e))
