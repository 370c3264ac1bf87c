-- Which types the entries of a dictionary have.
use Rattle.std.proofs.Common.{◌≡◌, ◌≢◌, ℕ, Bool, true, false, true≢false, ◌&&◌, None, refl, sym, ◌∙◌}
use Rattle.std.specs.Prelude.{not, ◌==◌, if◌then◌else◌}
use Rattle.shredding.specs.Shape.{LeafType, text, binary, signed, unsigned, fixed_bytes, decimal, IsInRange}
use Rattle.shredding.specs.Slot.{truth}
use Rattle.columns_core.specs.declared.types.IntervalUnit.TheVariants.{YearMonth, DayTime, MonthDayNano}
use Rattle.columns_core.specs.declared.types.TimeUnit.TheVariants.{Second, Millisecond, Microsecond, Nanosecond}
use Rattle.columns_core.specs.Shapes.{leaf_type}
use Rattle.columns_core.specs.Tree.{TypeTree, t_null, t_int8, t_int16, t_int32, t_int64, t_uint8, t_uint16, t_uint32, t_uint64, t_timestamp, t_date32, t_date64, t_time32, t_time64, t_duration, t_interval, t_binary, t_fixed_size_binary, t_large_binary, t_utf8, t_large_utf8}
use Rattle.columns_slots.specs.Types.{is_null_type}
use Rattle.pq_tree.specs.Physical.{Physical, boolean, int32, int64, int96, float, double, byte_array, fixed}
use Rattle.pq_files.specs.Statistics.{has_order}
use Rattle.schema_fit.specs.declared.page_table.Stored.TheVariants as S
use Rattle.schema_fit.specs.PageTable.{anywhere, is_stored_length}
use Rattle.write_values.specs.Served.{is_decimal, is_fixed, is_served}
use Rattle.dictionary_pages.specs.Entries.{is_entry, is_fixed_entry, row_allows}

-- ---- by the physical type

-- no entries are written under these
pub no_boolean : (t : TypeTree) → is_entry t boolean ≡ false
no_boolean (t_time32 Second) = refl
no_boolean (t_time32 Millisecond) = refl
no_boolean (t_time32 Microsecond) = refl
no_boolean (t_time32 Nanosecond) = refl
no_boolean (t_time64 Second) = refl
no_boolean (t_time64 Millisecond) = refl
no_boolean (t_time64 Microsecond) = refl
no_boolean (t_time64 Nanosecond) = refl
no_boolean (t_interval YearMonth) = refl
no_boolean (t_interval DayTime) = refl
no_boolean (t_interval MonthDayNano) = refl
no_boolean (t_fixed_size_binary n) = by (is_stored_length n)
  where
    by : (b : Bool) → row_allows (if b then anywhere (S.Fixed n) else None) boolean ≡ false
    by true = refl
    by false = refl
no_boolean t = refl

pub no_int96 : (t : TypeTree) → is_entry t int96 ≡ false
no_int96 (t_time32 Second) = refl
no_int96 (t_time32 Millisecond) = refl
no_int96 (t_time32 Microsecond) = refl
no_int96 (t_time32 Nanosecond) = refl
no_int96 (t_time64 Second) = refl
no_int96 (t_time64 Millisecond) = refl
no_int96 (t_time64 Microsecond) = refl
no_int96 (t_time64 Nanosecond) = refl
no_int96 (t_interval YearMonth) = refl
no_int96 (t_interval DayTime) = refl
no_int96 (t_interval MonthDayNano) = refl
no_int96 (t_fixed_size_binary n) = by (is_stored_length n)
  where
    by : (b : Bool) → row_allows (if b then anywhere (S.Fixed n) else None) int96 ≡ false
    by true = refl
    by false = refl
no_int96 t = refl

pub no_float : (t : TypeTree) → is_entry t float ≡ false
no_float (t_time32 Second) = refl
no_float (t_time32 Millisecond) = refl
no_float (t_time32 Microsecond) = refl
no_float (t_time32 Nanosecond) = refl
no_float (t_time64 Second) = refl
no_float (t_time64 Millisecond) = refl
no_float (t_time64 Microsecond) = refl
no_float (t_time64 Nanosecond) = refl
no_float (t_interval YearMonth) = refl
no_float (t_interval DayTime) = refl
no_float (t_interval MonthDayNano) = refl
no_float (t_fixed_size_binary n) = by (is_stored_length n)
  where
    by : (b : Bool) → row_allows (if b then anywhere (S.Fixed n) else None) float ≡ false
    by true = refl
    by false = refl
no_float t = refl

pub no_double : (t : TypeTree) → is_entry t double ≡ false
no_double (t_time32 Second) = refl
no_double (t_time32 Millisecond) = refl
no_double (t_time32 Microsecond) = refl
no_double (t_time32 Nanosecond) = refl
no_double (t_time64 Second) = refl
no_double (t_time64 Millisecond) = refl
no_double (t_time64 Microsecond) = refl
no_double (t_time64 Nanosecond) = refl
no_double (t_interval YearMonth) = refl
no_double (t_interval DayTime) = refl
no_double (t_interval MonthDayNano) = refl
no_double (t_fixed_size_binary n) = by (is_stored_length n)
  where
    by : (b : Bool) → row_allows (if b then anywhere (S.Fixed n) else None) double ≡ false
    by true = refl
    by false = refl
no_double t = refl

-- under these all that are no decimals, and no nulls alone
pub entry_int32 : (t : TypeTree) → is_entry t int32 ≡ ((is_served t int32 && not (is_decimal t)) && not (is_null_type t))
entry_int32 (t_time32 Second) = refl
entry_int32 (t_time32 Millisecond) = refl
entry_int32 (t_time32 Microsecond) = refl
entry_int32 (t_time32 Nanosecond) = refl
entry_int32 (t_time64 Second) = refl
entry_int32 (t_time64 Millisecond) = refl
entry_int32 (t_time64 Microsecond) = refl
entry_int32 (t_time64 Nanosecond) = refl
entry_int32 (t_interval YearMonth) = refl
entry_int32 (t_interval DayTime) = refl
entry_int32 (t_interval MonthDayNano) = refl
entry_int32 (t_fixed_size_binary n) = by (is_stored_length n)
  where
    by : (b : Bool) → row_allows (if b then anywhere (S.Fixed n) else None) int32 ≡ ((is_served (t_fixed_size_binary n) int32 && not (is_decimal (t_fixed_size_binary n))) && not (is_null_type (t_fixed_size_binary n)))
    by true = refl
    by false = refl
entry_int32 t = refl

pub entry_int64 : (t : TypeTree) → is_entry t int64 ≡ (is_served t int64 && not (is_decimal t))
entry_int64 (t_time32 Second) = refl
entry_int64 (t_time32 Millisecond) = refl
entry_int64 (t_time32 Microsecond) = refl
entry_int64 (t_time32 Nanosecond) = refl
entry_int64 (t_time64 Second) = refl
entry_int64 (t_time64 Millisecond) = refl
entry_int64 (t_time64 Microsecond) = refl
entry_int64 (t_time64 Nanosecond) = refl
entry_int64 (t_interval YearMonth) = refl
entry_int64 (t_interval DayTime) = refl
entry_int64 (t_interval MonthDayNano) = refl
entry_int64 (t_fixed_size_binary n) = by (is_stored_length n)
  where
    by : (b : Bool) → row_allows (if b then anywhere (S.Fixed n) else None) int64 ≡ (is_served (t_fixed_size_binary n) int64 && not (is_decimal (t_fixed_size_binary n)))
    by true = refl
    by false = refl
entry_int64 t = refl

pub entry_byte_array : (t : TypeTree) → is_entry t byte_array ≡ (is_served t byte_array && not (is_decimal t))
entry_byte_array (t_time32 Second) = refl
entry_byte_array (t_time32 Millisecond) = refl
entry_byte_array (t_time32 Microsecond) = refl
entry_byte_array (t_time32 Nanosecond) = refl
entry_byte_array (t_time64 Second) = refl
entry_byte_array (t_time64 Millisecond) = refl
entry_byte_array (t_time64 Microsecond) = refl
entry_byte_array (t_time64 Nanosecond) = refl
entry_byte_array (t_interval YearMonth) = refl
entry_byte_array (t_interval DayTime) = refl
entry_byte_array (t_interval MonthDayNano) = refl
entry_byte_array (t_fixed_size_binary n) = by (is_stored_length n)
  where
    by : (b : Bool) → row_allows (if b then anywhere (S.Fixed n) else None) byte_array ≡ (is_served (t_fixed_size_binary n) byte_array && not (is_decimal (t_fixed_size_binary n)))
    by true = refl
    by false = refl
entry_byte_array t = refl

-- under fixed byte strings those of the length
pub entry_fixed : (t : TypeTree) (n : ℕ) → is_entry t (fixed n) ≡ is_fixed_entry t n
entry_fixed (t_time32 Second) n = refl
entry_fixed (t_time32 Millisecond) n = refl
entry_fixed (t_time32 Microsecond) n = refl
entry_fixed (t_time32 Nanosecond) n = refl
entry_fixed (t_time64 Second) n = refl
entry_fixed (t_time64 Millisecond) n = refl
entry_fixed (t_time64 Microsecond) n = refl
entry_fixed (t_time64 Nanosecond) n = refl
entry_fixed (t_interval YearMonth) n = refl
entry_fixed (t_interval DayTime) n = refl
entry_fixed (t_interval MonthDayNano) n = refl
entry_fixed (t_fixed_size_binary m) n = by (is_stored_length m)
  where
    by : (b : Bool) → row_allows (if b then anywhere (S.Fixed m) else None) (fixed n) ≡ (b && (m == n))
    by true = refl
    by false = refl
entry_fixed t n = refl

-- ---- what entries are

both_left : (a b : Bool) → (a && b) ≡ true → a ≡ true
both_left true b e = refl
both_left false b e = absurd (true≢false (sym e))

both_right : (a b : Bool) → (a && b) ≡ true → b ≡ true
both_right true b e = e
both_right false b e = absurd (true≢false (sym e))

fixed_served : (t : TypeTree) (n : ℕ) → is_fixed_entry t n ≡ true → is_fixed n t ≡ true
fixed_served (t_fixed_size_binary m) n e = both_right (is_stored_length m) (m == n) e
fixed_served t n e = absurd (true≢false (sym e))

pub entry_served : (t : TypeTree) (p : Physical) → is_entry t p ≡ true → is_served t p ≡ true
entry_served t boolean e = absurd (true≢false (sym e ∙ no_boolean t))
entry_served t int32 e = both_left (is_served t int32) (not (is_decimal t)) (both_left (is_served t int32 && not (is_decimal t)) (not (is_null_type t)) (sym (entry_int32 t) ∙ e))
entry_served t int64 e = both_left (is_served t int64) (not (is_decimal t)) (sym (entry_int64 t) ∙ e)
entry_served t int96 e = absurd (true≢false (sym e ∙ no_int96 t))
entry_served t float e = absurd (true≢false (sym e ∙ no_float t))
entry_served t double e = absurd (true≢false (sym e ∙ no_double t))
entry_served t byte_array e = both_left (is_served t byte_array) (not (is_decimal t)) (sym (entry_byte_array t) ∙ e)
entry_served t (fixed n) e = fixed_served t n (sym (entry_fixed t n) ∙ e)

-- nulls alone are none
pub null_entries : (t : TypeTree) (p : Physical) → is_null_type t ≡ true → is_entry t p ≡ false
null_entries t_null p e = refl
null_entries t p e = absurd (true≢false (sym e))

pub entry_in_a_row : (t : TypeTree) (p : Physical) → is_entry t p ≡ true → p ≢ boolean
entry_in_a_row t boolean e = absurd (true≢false (sym e ∙ no_boolean t))
entry_in_a_row t int32 e = λ h. cc
entry_in_a_row t int64 e = λ h. cc
entry_in_a_row t int96 e = λ h. cc
entry_in_a_row t float e = λ h. cc
entry_in_a_row t double e = λ h. cc
entry_in_a_row t byte_array e = λ h. cc
entry_in_a_row t (fixed n) e = λ h. cc

-- whole numbers, texts and byte strings
abbrev pub is_entry_kind : LeafType → Bool
is_entry_kind (signed w) = true
is_entry_kind (unsigned w) = true
is_entry_kind text = true
is_entry_kind binary = true
is_entry_kind (fixed_bytes n) = true
is_entry_kind t = false

pub entry_kind : (t : TypeTree) (p : Physical) → is_entry t p ≡ true → is_entry_kind (leaf_type t) ≡ true
entry_kind t_int8 p e = refl
entry_kind t_int16 p e = refl
entry_kind t_int32 p e = refl
entry_kind t_int64 p e = refl
entry_kind t_uint8 p e = refl
entry_kind t_uint16 p e = refl
entry_kind t_uint32 p e = refl
entry_kind t_uint64 p e = refl
entry_kind (t_timestamp u z) p e = refl
entry_kind t_date32 p e = refl
entry_kind t_date64 p e = refl
entry_kind (t_time32 u) p e = refl
entry_kind (t_time64 u) p e = refl
entry_kind (t_duration u) p e = refl
entry_kind t_binary p e = refl
entry_kind (t_fixed_size_binary n) p e = refl
entry_kind t_large_binary p e = refl
entry_kind t_utf8 p e = refl
entry_kind t_large_utf8 p e = refl
entry_kind t p e = absurd (true≢false (sym e))

pub kind_ordered : (t : LeafType) → is_entry_kind t ≡ true → has_order t ≡ true
kind_ordered (signed w) e = refl
kind_ordered (unsigned w) e = refl
kind_ordered text e = refl
kind_ordered binary e = refl
kind_ordered (fixed_bytes n) e = refl
kind_ordered t e = absurd (true≢false (sym e))

pub kind_no_decimal : (t : LeafType) → is_entry_kind t ≡ true → t ≢ decimal
kind_no_decimal decimal e = absurd (true≢false (sym e))
kind_no_decimal (signed w) e = λ h. cc
kind_no_decimal (unsigned w) e = λ h. cc
kind_no_decimal text e = λ h. cc
kind_no_decimal binary e = λ h. cc
kind_no_decimal (fixed_bytes n) e = λ h. cc
kind_no_decimal t e = absurd (true≢false (sym e))

-- no truth value is one of them
pub kind_no_truth : (t : LeafType) (b : Bool) → is_entry_kind t ≡ true → IsInRange t (truth b) → ⊥
kind_no_truth (signed w) b e h = h
kind_no_truth (unsigned w) b e h = h
kind_no_truth text b e h = h
kind_no_truth binary b e h = h
kind_no_truth (fixed_bytes n) b e h = h
kind_no_truth t b e h = absurd (true≢false (sym e))
