-- A type with no type within is read from its table.
use Rattle.std.proofs.Common.{◌≡◌, ℕ, ◌-◌, ◌^◌, ◌<◌, ◌≤◌, true, false, ltb, List, length, slice_get, Option, Some, None, IfSome, IsUtf8, refl, arith}
use Rattle.std.proofs.lemmas.Bool.{le-ltb, leb-true}
use Rattle.columns_core.specs.declared.types.TimeUnit.{TimeUnit}
use Rattle.columns_core.specs.declared.types.TimeUnit.TheVariants.{Second}
use Rattle.columns_core.specs.declared.types.IntervalUnit.{IntervalUnit}
use Rattle.columns_core.specs.declared.types.IntervalUnit.TheVariants.{YearMonth}
use Rattle.columns_core.specs.declared.types.IntegerType.{IntegerType}
use Rattle.columns_core.specs.declared.types.IntegerType.TheVariants as keys
use Rattle.columns_core.specs.Tree.{t_timestamp, t_time32, t_time64, t_decimal, t_decimal256}
use Rattle.schema_codec.specs.Tags.{units, unit_number, interval_units, interval_number}
use Rattle.schema_fb.specs.Layout.{number, Cells, no_cells, text, below_bytes}
use Rattle.schema_fb.specs.Places.{Table, optional_text_in}
use Rattle.schema_fb.specs.Reading.{natural_in, integer_in, decimal_in, time_in, timestamp_in}
use Rattle.schema_fb.specs.Tables.{truth, optional_text, one, two, three, integer, is_small}
use Rattle.schema_fb.specs.Tags.{width, is_signed, integer_of}
use Rattle.schema_fb.specs.Proved.Standing.{text_stands}
use Rattle.schema_fb.specs.Proved.Entries.{follows}
use Rattle.schema_fb.specs.Proved.Slots.{Small, Costs, over_costs, Slotted, Holds, more_slots, number_slot, below_slot, absent_slot, word_in, truth_again, choice_again, one_cost, text_cost}

-- ---- whole numbers

width_small : (key : IntegerType) → width key < 2 ^ 32
width_small keys.Int8 = omega arith
width_small _ = omega arith

width_tells : (key : IntegerType) → integer_of (width key) (is_signed key) ≡ Some key
width_tells keys.Int8 = refl
width_tells _ = refl

pub integer_again : (b : List ℕ) (u : Table) (key : IntegerType) → Slotted b u 0 (integer key) → integer_in b u ≡ Some key
unfolding integer_in
integer_again b u key s =
    let wide = word_in b u 0 (width key) 0 (width_small key) (number_slot b u 0 (width key) (one (truth (is_signed key))) s) in
    let after = more_slots b u 0 (number (width key)) (one (truth (is_signed key))) s in
    let signed = truth_again b u 1 (is_signed key) (number_slot b u 1 _ no_cells after) in
    rw (wide, signed) (width_tells key)

-- ---- units

pub unit_small : (unit : TimeUnit) → unit_number unit < 2 ^ 16
unit_small Second = omega arith
unit_small _ = omega arith

pub unit_tells : (unit : TimeUnit) → slice_get units (unit_number unit) ≡ Some unit
unit_tells Second = refl
unit_tells _ = refl

pub interval_small : (unit : IntervalUnit) → interval_number unit < 2 ^ 16
interval_small YearMonth = omega arith
interval_small _ = omega arith

pub interval_tells : (unit : IntervalUnit) → slice_get interval_units (interval_number unit) ≡ Some unit
interval_tells YearMonth = refl
interval_tells _ = refl

-- ---- sizes

pub natural_again : (b : List ℕ) (u : Table) (i n : ℕ) → is_small n ≡ true → Holds b u i n → natural_in b u i ≡ Some n
natural_again b u i n small h =
    let le : n ≤ 2147483647 = leb-true n 2147483647 small in
    let not_more : ltb 2147483647 n ≡ false = le-ltb 2147483647 n le in
    rw (word_in b u i n 0 (omega arith) h, not_more) refl

abbrev decimal_cells : ℕ → ℕ → ℕ → Cells
decimal_cells precision scale wide = three (number precision) (number scale) (number wide)

pub decimal_again : (b : List ℕ) (u : Table) (precision scale : ℕ) → is_small precision ≡ true → is_small scale ≡ true → Slotted b u 0 (decimal_cells precision scale 128) → decimal_in b u ≡ Some (t_decimal precision scale)
unfolding decimal_in
decimal_again b u precision scale small narrow s =
    let first = natural_again b u 0 precision small (number_slot b u 0 precision (two (number scale) (number 128)) s) in
    let after = more_slots b u 0 (number precision) (two (number scale) (number 128)) s in
    let second = natural_again b u 1 scale narrow (number_slot b u 1 scale (one (number 128)) after) in
    let third = word_in b u 2 128 128 (omega arith) (number_slot b u 2 128 no_cells (more_slots b u 1 (number scale) (one (number 128)) after)) in
    rw (first, second, third) refl

pub decimal256_again : (b : List ℕ) (u : Table) (precision scale : ℕ) → is_small precision ≡ true → is_small scale ≡ true → Slotted b u 0 (decimal_cells precision scale 256) → decimal_in b u ≡ Some (t_decimal256 precision scale)
unfolding decimal_in
decimal256_again b u precision scale small narrow s =
    let first = natural_again b u 0 precision small (number_slot b u 0 precision (two (number scale) (number 256)) s) in
    let after = more_slots b u 0 (number precision) (two (number scale) (number 256)) s in
    let second = natural_again b u 1 scale narrow (number_slot b u 1 scale (one (number 256)) after) in
    let third = word_in b u 2 256 128 (omega arith) (number_slot b u 2 256 no_cells (more_slots b u 1 (number scale) (one (number 256)) after)) in
    rw (first, second, third) refl

-- ---- times

pub time32_again : (b : List ℕ) (u : Table) (unit : TimeUnit) → Slotted b u 0 (two (number (unit_number unit)) (number 32)) → time_in b u ≡ Some (t_time32 unit)
unfolding time_in
time32_again b u unit s =
    let first = choice_again units 1 b u 0 (unit_number unit) unit (unit_small unit) (unit_tells unit) (number_slot b u 0 (unit_number unit) (one (number 32)) s) in
    let second = word_in b u 1 32 32 (omega arith) (number_slot b u 1 32 no_cells (more_slots b u 0 (number (unit_number unit)) (one (number 32)) s)) in
    rw (first, second) refl

pub time64_again : (b : List ℕ) (u : Table) (unit : TimeUnit) → Slotted b u 0 (two (number (unit_number unit)) (number 64)) → time_in b u ≡ Some (t_time64 unit)
unfolding time_in
time64_again b u unit s =
    let first = choice_again units 1 b u 0 (unit_number unit) unit (unit_small unit) (unit_tells unit) (number_slot b u 0 (unit_number unit) (one (number 64)) s) in
    let second = word_in b u 1 64 32 (omega arith) (number_slot b u 1 64 no_cells (more_slots b u 0 (number (unit_number unit)) (one (number 64)) s)) in
    rw (first, second) refl

zone_again : (b : List ℕ) (u : Table) (i left : ℕ) (zone : Option (List ℕ)) → Small b → IfSome zone IsUtf8 → length (below_bytes (one (optional_text zone))) ≤ left → Slotted b u i (one (optional_text zone))
    → Costs (optional_text_in b u i left) zone left (length (below_bytes (one (optional_text zone))))
zone_again b u i left None long utf8 enough s = (left, rw (absent_slot b u i no_cells s) refl, omega arith)
zone_again b u i left (Some z) long utf8 enough s =
    let p = below_slot b u i (text z) no_cells s in
    let cost = text_cost z in
    let all = one_cost (text z) in
    let read = text_stands b p.0 left z long utf8 (omega arith) p.4 in
    (left - length z, rw (p.2, follows b p.1 p.0 p.3, read) refl, omega arith)

pub timestamp_again : (b : List ℕ) (u : Table) (left : ℕ) (unit : TimeUnit) (zone : Option (List ℕ)) → Small b → IfSome zone IsUtf8 → length (below_bytes (one (optional_text zone))) ≤ left
    → Slotted b u 0 (two (number (unit_number unit)) (optional_text zone)) → Costs (timestamp_in b u left) (t_timestamp unit zone) left (length (below_bytes (one (optional_text zone))))
unfolding timestamp_in
timestamp_again b u left unit zone long utf8 enough s =
    let first = choice_again units 0 b u 0 (unit_number unit) unit (unit_small unit) (unit_tells unit) (number_slot b u 0 (unit_number unit) (one (optional_text zone)) s) in
    let after = more_slots b u 0 (number (unit_number unit)) (one (optional_text zone)) s in
    let read = over_costs (t_timestamp unit) (optional_text_in b u 1 left) zone left _ (zone_again b u 1 left zone long utf8 enough after) in
    (read.0, rw first read.1, read.2)
