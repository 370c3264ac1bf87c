-- What is held of an interval or a decimal is the value that arrays of its type have; with the proofs, since a trait's law is given with them.
use Rattle.std.proofs.Common.{◌≡◌, ℤ, true, refl, sym, true≢false}
use Rattle.columns_core.specs.Natives.{stores_i32, stores_i128, stores_days, value_i32, value_i128, value_days, within_signed}
use Rattle.columns_core.specs.Tree.{TypeTree, t_int32, t_date32, t_time32, t_interval}
use Rattle.columns_core.specs.declared.native.DaysMs.{DaysMs}
use Rattle.columns_core.specs.declared.types.IntervalUnit.TheVariants.{YearMonth, DayTime}
use Rattle.shredding.specs.Slot.{number}
use Rattle.read_leaf.specs.Fixed.{is_fixed}

pub months_held : (t : TypeTree) (x : ℤ) → stores_i32 t ≡ true → is_fixed t ≡ true → value_i32 t x ≡ value_i32 (t_interval YearMonth) x
months_held t_int32 x s f = absurd (true≢false (sym f))
months_held t_date32 x s f = absurd (true≢false (sym f))
months_held (t_time32 u) x s f = absurd (true≢false (sym f))
months_held (t_interval u) x s f = refl
months_held t x s f = absurd (true≢false (sym s))

pub days_held : (t : TypeTree) (x : DaysMs) → stores_days t ≡ true → is_fixed t ≡ true → value_days t x ≡ value_days (t_interval DayTime) x
days_held t x s f = refl

pub decimal_held : (t : TypeTree) (x : ℤ) → stores_i128 t ≡ true → is_fixed t ≡ true → value_i128 t x ≡ number (within_signed 128 x)
decimal_held t x s f = refl
