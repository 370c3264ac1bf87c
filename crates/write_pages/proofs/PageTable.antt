-- Values that are written, by the page table.
use Rattle.std.proofs.Common.{◌≡◌, ℕ, Bool, true, false, ◌&&◌, List, true≢false, Option, Some, None, if◌then◌else◌, refl, sym, ap, ◌∙◌}
use Rattle.std.specs.Prelude.{◌||◌}
use Rattle.std.proofs.lemmas.Bool.{or_left}
use Rattle.shredding.specs.Along.{IsAlong}
use Rattle.shredding.specs.Parts.{Part}
use Rattle.shredding.specs.Shape.{at_leaf}
use Rattle.columns_core.specs.Shapes.{base}
use Rattle.columns_core.specs.declared.types.IntervalUnit.TheVariants.{YearMonth, DayTime}
use Rattle.columns_core.specs.declared.types.TimeUnit.TheVariants.{Second, Millisecond, Microsecond, Nanosecond}
use Rattle.columns_core.specs.Tree.{TypeTree, t_null, t_boolean, t_int8, t_int16, t_int32, t_int64, t_uint8, t_uint16, t_uint32, t_uint64, t_timestamp, t_date32, t_date64, t_time32, t_time64, t_duration, t_interval, t_binary, t_fixed_size_binary, t_large_binary, t_utf8, t_large_utf8, t_decimal}
use Rattle.columns_slots.specs.Slots.{IsSound, type_of}
use Rattle.columns_slots.specs.Tree.{ArrayTree, null_array, leaf_array, list_array, fixed_list_array, struct_array, dictionary_array}
use Rattle.columns_slots.specs.Types.{is_boolean, is_null_type}
use Rattle.nested_paths.specs.Seen.{leaf_slot}
use Rattle.pq_tree.specs.Physical.{Physical, boolean, int32, int64, int96, float, double, byte_array, fixed}
use Rattle.schema_fit.specs.declared.page_table.Row.{Row}
use Rattle.schema_fit.specs.declared.page_table.Stored.{Stored}
use Rattle.schema_fit.specs.declared.page_table.Stored.TheVariants as S
use Rattle.schema_fit.specs.PageTable.{allows, only_flat}
use Rattle.write_values.specs.Served.{is_decimal, is_fixed, is_small, is_wide, is_string, is_served}
use Rattle.write_values.proofs.ServedTypes.{no_others}
use Rattle.write_pages.specs.Fits.{row_at, is_flat_path, is_written, is_written_along, is_written_flat, is_written_in}

-- a row that allows exactly the physical types that are written
pub record HasRow (t : TypeTree) : Type 0 where
  pub row : Row
  pub is : row_at t ≡ Some row
  pub allows_written : (p : Physical) → allows row.stored p ≡ is_served t p

module _ (t : TypeTree) (stored : Stored) (a : allows stored int32 ≡ (is_small t || is_decimal t)) (b : allows stored int64 ≡ (is_wide t || is_decimal t)) (c : allows stored byte_array ≡ is_string t) (d : allows stored boolean ≡ is_boolean t) (e : allows stored int96 ≡ false) (f : allows stored float ≡ false) (g : allows stored double ≡ false) (h : (n : ℕ) → allows stored (fixed n) ≡ is_fixed n t) where
  each : (p : Physical) → allows stored p ≡ is_served t p
  each int32 = a
  each int64 = b
  each byte_array = c
  each boolean = d
  each int96 = e
  each float = f
  each double = g
  each (fixed n) = h n

small : (t : TypeTree) → is_boolean t ≡ false → (is_small t || is_decimal t) ≡ true → (is_wide t || is_decimal t) ≡ false → is_string t ≡ false → ((n : ℕ) → is_fixed n t ≡ false) → (p : Physical) → allows S.Int32 p ≡ is_served t p
small t d a b c f = each t S.Int32 (sym a) (sym b) (sym c) (sym d) refl refl refl (λ n. sym (f n))

wide : (t : TypeTree) → is_boolean t ≡ false → (is_small t || is_decimal t) ≡ false → (is_wide t || is_decimal t) ≡ true → is_string t ≡ false → ((n : ℕ) → is_fixed n t ≡ false) → (p : Physical) → allows S.Int64 p ≡ is_served t p
wide t d a b c f = each t S.Int64 (sym a) (sym b) (sym c) (sym d) refl refl refl (λ n. sym (f n))

string : (t : TypeTree) → is_boolean t ≡ false → (is_small t || is_decimal t) ≡ false → (is_wide t || is_decimal t) ≡ false → is_string t ≡ true → ((n : ℕ) → is_fixed n t ≡ false) → (p : Physical) → allows S.ByteArray p ≡ is_served t p
string t d a b c f = each t S.ByteArray (sym a) (sym b) (sym c) (sym d) refl refl refl (λ n. sym (f n))

pub written_row : (b : Bool) (t : TypeTree) → is_written_in b t ≡ true → HasRow t
written_row b t_boolean w = record { row = record { stored = S.Boolean; is_nested = true }; is = refl; allows_written = each t_boolean S.Boolean refl refl refl refl refl refl refl (λ n. refl) }
written_row b t_null w = record { row = record { stored = S.Int32; is_nested = true }; is = refl; allows_written = small t_null refl refl refl refl (λ n. refl) }
written_row b t_int8 w = record { row = record { stored = S.Int32; is_nested = true }; is = refl; allows_written = small t_int8 refl refl refl refl (λ n. refl) }
written_row b t_int16 w = record { row = record { stored = S.Int32; is_nested = true }; is = refl; allows_written = small t_int16 refl refl refl refl (λ n. refl) }
written_row b t_int32 w = record { row = record { stored = S.Int32; is_nested = true }; is = refl; allows_written = small t_int32 refl refl refl refl (λ n. refl) }
written_row b t_uint8 w = record { row = record { stored = S.Int32; is_nested = true }; is = refl; allows_written = small t_uint8 refl refl refl refl (λ n. refl) }
written_row b t_uint16 w = record { row = record { stored = S.Int32; is_nested = true }; is = refl; allows_written = small t_uint16 refl refl refl refl (λ n. refl) }
written_row b t_date32 w = record { row = record { stored = S.Int32; is_nested = true }; is = refl; allows_written = small t_date32 refl refl refl refl (λ n. refl) }
written_row b (t_time32 Second) w = record { row = record { stored = S.Int32; is_nested = true }; is = refl; allows_written = small (t_time32 Second) refl refl refl refl (λ n. refl) }
written_row b (t_time32 Millisecond) w = record { row = record { stored = S.Int32; is_nested = true }; is = refl; allows_written = small (t_time32 Millisecond) refl refl refl refl (λ n. refl) }
written_row b t_uint32 w = record { row = record { stored = S.Int32OrInt64; is_nested = true }; is = refl; allows_written = each t_uint32 S.Int32OrInt64 refl refl refl refl refl refl refl (λ n. refl) }
written_row b t_int64 w = record { row = record { stored = S.Int64; is_nested = true }; is = refl; allows_written = wide t_int64 refl refl refl refl (λ n. refl) }
written_row b t_uint64 w = record { row = record { stored = S.Int64; is_nested = true }; is = refl; allows_written = wide t_uint64 refl refl refl refl (λ n. refl) }
written_row b t_date64 w = record { row = record { stored = S.Int64; is_nested = true }; is = refl; allows_written = wide t_date64 refl refl refl refl (λ n. refl) }
written_row b (t_time64 Microsecond) w = record { row = record { stored = S.Int64; is_nested = true }; is = refl; allows_written = wide (t_time64 Microsecond) refl refl refl refl (λ n. refl) }
written_row b (t_time64 Nanosecond) w = record { row = record { stored = S.Int64; is_nested = true }; is = refl; allows_written = wide (t_time64 Nanosecond) refl refl refl refl (λ n. refl) }
written_row b (t_timestamp u z) w = record { row = record { stored = S.Int64; is_nested = true }; is = refl; allows_written = wide (t_timestamp u z) refl refl refl refl (λ n. refl) }
written_row b (t_duration u) w = record { row = record { stored = S.Int64; is_nested = true }; is = refl; allows_written = wide (t_duration u) refl refl refl refl (λ n. refl) }
written_row b t_utf8 w = record { row = record { stored = S.ByteArray; is_nested = true }; is = refl; allows_written = string t_utf8 refl refl refl refl (λ n. refl) }
written_row b t_large_utf8 w = record { row = record { stored = S.ByteArray; is_nested = true }; is = refl; allows_written = string t_large_utf8 refl refl refl refl (λ n. refl) }
written_row b t_binary w = record { row = record { stored = S.ByteArray; is_nested = true }; is = refl; allows_written = string t_binary refl refl refl refl (λ n. refl) }
written_row b t_large_binary w = record { row = record { stored = S.ByteArray; is_nested = true }; is = refl; allows_written = string t_large_binary refl refl refl refl (λ n. refl) }
written_row true (t_fixed_size_binary n) w = record {
  row = record { stored = S.Fixed n; is_nested = false };
  is = ap (λ (c : Bool). if c then only_flat (S.Fixed n) else None) w;
  allows_written = each (t_fixed_size_binary n) (S.Fixed n) refl refl refl refl refl refl refl (λ m. refl);
}
written_row true (t_decimal q x) w = record {
  row = record { stored = S.Decimal; is_nested = false };
  is = refl;
  allows_written = each (t_decimal q x) S.Decimal refl refl refl refl refl refl refl (λ m. refl);
}
written_row true (t_interval YearMonth) w = record {
  row = record { stored = S.Fixed 12; is_nested = false };
  is = refl;
  allows_written = each (t_interval YearMonth) (S.Fixed 12) refl refl refl refl refl refl refl (λ m. refl);
}
written_row true (t_interval DayTime) w = record {
  row = record { stored = S.Fixed 12; is_nested = false };
  is = refl;
  allows_written = each (t_interval DayTime) (S.Fixed 12) refl refl refl refl refl refl refl (λ m. refl);
}
written_row true t w = absurd (true≢false (sym w))
written_row false t w = absurd (true≢false (sym w))

or_that : Row → Option Row → Row
or_that r (Some s) = s
or_that r None = r

some_same : (r s : Row) → Some r ≡ Some s → r ≡ s
unfolding or_that
some_same r s e = ap (or_that r) e

-- the physical type is one of the row
pub is_allowed : (b : Bool) (t : TypeTree) (p : Physical) → is_written_in b t ≡ true → is_served t p ≡ true → (r : Row) → row_at t ≡ Some r → allows r.stored p ≡ true
is_allowed b t p w s r e =
    let h = written_row b t w in
    ap (λ (x : Row). allows x.stored p) (sym (some_same h.row r (sym h.is ∙ e))) ∙ (h.allows_written p ∙ s)

pub is_refused : (b : Bool) (t : TypeTree) (p : Physical) → is_written_in b t ≡ true → is_served t p ≡ false → ¬ ((r : Row) → row_at t ≡ Some r → allows r.stored p ≡ true)
is_refused b t p w s f =
    let h = written_row b t w in
    true≢false (sym (f h.row h.is) ∙ (h.allows_written p ∙ s))

pub fits_served : (b : Bool) (t : TypeTree) (p : Physical) → is_written_in b t ≡ true → ((r : Row) → row_at t ≡ Some r → allows r.stored p ≡ true) → is_served t p ≡ true
fits_served b t p w f =
    let h = written_row b t w in
    sym (h.allows_written p) ∙ f h.row h.is

-- each slot of what is written and is not null alone is one of its leaf
pub values_here : (a : ArrayTree) (p : Physical) (b : Bool) → IsSound a → is_served (base (type_of a)) p ≡ true → is_null_type (base (type_of a)) ≡ false → (i : ℕ) → IsAlong (at_leaf b) (leaf_slot a i)
values_here (leaf_array t vs m) p b s e n i = tt
values_here (null_array t k) p b s e n i = absurd (true≢false (sym s ∙ n))
values_here (list_array t os c m) p b s e n i = absurd (true≢false (sym e ∙ no_others (list_array t os c m) p refl s))
values_here (fixed_list_array t w k c m) p b s e n i = absurd (true≢false (sym e ∙ no_others (fixed_list_array t w k c m) p refl s))
values_here (struct_array t cs m) p b s e n i = absurd (true≢false (sym e ∙ no_others (struct_array t cs m) p refl s))
values_here (dictionary_array t ks c m) p b s e n i = absurd (true≢false (sym e ∙ no_others (dictionary_array t ks c m) p refl s))

-- what is written in any column is written along each path
pub written_along : (parts : List Part) (a : ArrayTree) → is_written (base (type_of a)) ≡ true → is_written_along parts a ≡ true
written_along parts a w = or_left (is_written (base (type_of a))) (is_flat_path parts && is_written_flat (base (type_of a))) w
