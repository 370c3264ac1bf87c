-- Decimals as a column stores them (Parquet format, LogicalTypes, "DECIMAL"; Encodings, "Plain").
use Rattle.std.specs.Prelude.{◌≡◌, ◌≢◌, refl, ℕ, ◌-◌, ◌*◌, ◌^◌, ◌≤◌, ℤ, pos, negsuc, List, [], ◌∷◌, Contains, Bool, false, not, ◌||◌, nat_lt, if◌then◌else◌}
use Rattle.std.specs.Int.{w32, w64, w128, cast_unsigned, int_wrap, bytes_high_first}
use Rattle.shredding.specs.Shape.{LeafType, decimal}
use Rattle.shredding.specs.Shred.{Triple}
use Rattle.shredding.specs.Slot.{Value, number, bytes}
use Rattle.columns_core.specs.Natives.{within_signed}
use Rattle.pq_tree.specs.Physical.{Physical, boolean, int32, int64, fixed}
use Rattle.pq_files.specs.Layout.{plain_size}
use Rattle.pq_files.specs.Page.{values_in}
use Rattle.pq_files.specs.Stored.{HoldsDecimal}
use Rattle.write_values.specs.declared.decimals.DecimalForm.{DecimalForm}
use Rattle.write_values.specs.declared.decimals.DecimalForm.TheVariants.{Int32, Int64, Fixed}

-- the low bytes of a number in two's complement, the highest of them first
abbrev pub low_bytes : ℕ → ℤ → List ℕ
low_bytes n z = bytes_high_first n (cast_unsigned w128 z)

-- what is stored for a decimal: its low bits in two's complement. That is the decimal itself where the physical type holds it.
abbrev pub stored_decimal : Physical → ℤ → Value
stored_decimal int32 z = number (int_wrap w32 z)
stored_decimal int64 z = number (int_wrap w64 z)
stored_decimal (fixed n) z = bytes (low_bytes n z)
stored_decimal p z = number z

-- -300 in two bytes
two_bytes : stored_decimal (fixed 2) (negsuc 299) ≡ bytes (254 ∷ 212 ∷ [])
two_bytes = refl

-- ---- which decimals a physical type holds

-- a decimal among the values of these triples is past what its physical type holds
abbrev pub HasWide : LeafType → Physical → List Triple → Type 0
HasWide t p ts = (t ≡ decimal) × (z : ℤ) × Contains (values_in ts) (number z) × ¬ HoldsDecimal p z

-- a number of so many bits, in two's complement
abbrev pub fits_in : ℕ → ℤ → Bool
fits_in w (pos n) = nat_lt n (2 ^ (w - 1))
fits_in w (negsuc n) = nat_lt n (2 ^ (w - 1))

abbrev pub holds_decimal : Physical → ℤ → Bool
holds_decimal int32 z = fits_in 32 z
holds_decimal int64 z = fits_in 64 z
holds_decimal (fixed n) z = fits_in (8 * n) z
holds_decimal p z = false

abbrev pub is_wide_decimal : Physical → Value → Bool
is_wide_decimal p (number z) = not (holds_decimal p z)
is_wide_decimal p v = false

abbrev pub any_wide : Physical → List Value → Bool
any_wide p [] = false
any_wide p (v ∷ vs) = is_wide_decimal p v || any_wide p vs

-- a decimal as statistics see it: the number that is held, and 0 in the place of one that is not
abbrev pub held_decimal : Physical → ℤ → ℤ
held_decimal p z = if holds_decimal p z then z else pos 0

abbrev pub held_value : Physical → ℤ → Value
held_value p z = number (held_decimal p (within_signed 128 z))

-- ---- the forms in which decimals are written

abbrev pub form_physical : DecimalForm → Physical
form_physical Int32 = int32
form_physical Int64 = int64
form_physical (Fixed n) = fixed n

-- the bytes of a decimal
abbrev pub form_size : DecimalForm → ℕ
form_size Int32 = 4
form_size Int64 = 8
form_size (Fixed n) = n

-- they have from 1 to 16 bytes
abbrev pub IsForm : DecimalForm → Type 0
IsForm form = (1 ≤ form_size form) × (form_size form ≤ 16)

pub form_sizes : (form : DecimalForm) (v : Value) → plain_size (form_physical form) v ≡ form_size form
form_sizes Int32 v = refl
form_sizes Int64 v = refl
form_sizes (Fixed n) v = refl

pub form_in_a_row : (form : DecimalForm) → form_physical form ≢ boolean
form_in_a_row Int32 = λ e. cc
form_in_a_row Int64 = λ e. cc
form_in_a_row (Fixed n) = λ e. cc
