-- A row allows the physical types under which values are stored.
use Rattle.std.proofs.Common.{◌≡◌, ◌↔◌, ◌⊎◌, inl, inr, ℕ, ◌-◌, pos, Bool, true, false, ◌&&◌, ◌||◌, ◌==◌, Option, Some, None, [], replicate, leb, nat_le, refl, sym, subst, ◌∙◌, true≢false}
use Rattle.std.specs.Prelude.{if◌then◌else◌}
use Rattle.std.proofs.lemmas.Bool.{and_parts, and_from, leb-true, le-leb, eqb-true, eq-eqb}
use Rattle.std.proofs.lemmas.List.{length-replicate}
use Rattle.std.proofs.lemmas.Nat.{pow_pos}
use Rattle.std.proofs.lemmas.Str.{IsUtf8-nil}
use Rattle.shredding.specs.Shape.{LeafType, nothing, truths, text, binary, signed, unsigned, fixed_bytes, decimal, months, days, Fits}
use Rattle.shredding.specs.Slot.{Value, truth, number, bytes}
use Rattle.columns_core.specs.declared.types.TimeUnit.TheVariants.{Second, Millisecond, Microsecond, Nanosecond}
use Rattle.columns_core.specs.declared.types.IntervalUnit.TheVariants.{YearMonth, DayTime, MonthDayNano}
use Rattle.columns_core.specs.Shapes.{leaf_type, base}
use Rattle.columns_core.specs.Tree.{TypeTree, t_null, t_boolean, t_int8, t_int16, t_int32, t_int64, t_uint8, t_uint16, t_uint32, t_uint64, t_timestamp, t_date32, t_date64, t_time32, t_time64, t_duration, t_interval, t_binary, t_fixed_size_binary, t_large_binary, t_utf8, t_large_utf8, t_dictionary, t_decimal, t_extension}
use Rattle.pq_tree.specs.Physical.{Physical, boolean, int32, int64, byte_array, fixed}
use Rattle.pq_files.specs.Stored.{IsStored, signed_big_endian}
use Rattle.schema_fit.specs.declared.page_table.Row.{Row}
use Rattle.schema_fit.specs.declared.page_table.Stored.TheVariants as S
use Rattle.schema_fit.specs.PageTable.{allows, is_stored_length, value_row, entry_row, row_of}
use Rattle.schema_fit.specs.Skeleton.{ArrowLeaf}
use Rattle.schema_map.specs.StoredRows.{HasStored, is_null, AreStoredByRows}

-- ---- under which physical types values are stored

abbrev is_under : LeafType → Physical → Bool
is_under truths boolean = true
is_under (signed w) int32 = leb w 32
is_under (signed w) int64 = w == 64
is_under (unsigned w) int32 = leb w 32
is_under (unsigned w) int64 = (w == 32) || (w == 64)
is_under text byte_array = true
is_under binary byte_array = true
is_under (fixed_bytes n) (fixed m) = n == m
is_under decimal int32 = true
is_under decimal int64 = true
is_under decimal (fixed n) = nat_le 1 n && nat_le n 16
is_under months (fixed n) = 12 == n
is_under days (fixed n) = 12 == n
is_under k p = false

or_from : (a b : Bool) → (a ≡ true) ⊎ (b ≡ true) → (a || b) ≡ true
or_from true b h = refl
or_from false b (inl h) = absurd (true≢false (sym h))
or_from false b (inr h) = h

or_parts : (a b : Bool) → (a || b) ≡ true → (a ≡ true) ⊎ (b ≡ true)
or_parts true b h = inl refl
or_parts false b h = inr h

under_of : (k : LeafType) (p : Physical) (v s : Value) → IsStored k p v s → is_under k p ≡ true
under_of truths boolean v s h = refl
under_of (signed w) int32 (number z) s h = le-leb w 32 h.0
under_of (signed w) int64 (number z) s h = eq-eqb w 64 h.0
under_of (unsigned w) int32 (number (pos n)) s h = le-leb w 32 h.0
under_of (unsigned w) int64 (number (pos n)) s h = or_from (w == 32) (w == 64) (either h.0)
  where
    either : (w ≡ 32) ⊎ (w ≡ 64) → ((w == 32) ≡ true) ⊎ ((w == 64) ≡ true)
    either (inl e) = inl (eq-eqb w 32 e)
    either (inr e) = inr (eq-eqb w 64 e)
under_of text byte_array v s h = refl
under_of binary byte_array v s h = refl
under_of (fixed_bytes n) (fixed m) (bytes t) s h = eq-eqb n m h.0
under_of decimal int32 v s h = refl
under_of decimal int64 v s h = refl
under_of decimal (fixed n) (number z) (bytes t) h = and_from _ _ (le-leb 1 n h.0) (le-leb n 16 h.1)
under_of months (fixed n) (bytes t) s h = eq-eqb 12 n (sym h.0)
under_of days (fixed n) (bytes t) s h = eq-eqb 12 n (sym h.0)
under_of k p v s h = absurd h

-- 0 and nothing are values of each width and length
stored_zero : (w : ℕ) → Fits w (pos 0)
stored_zero w = pow_pos (w - 1)

of_under : (k : LeafType) (p : Physical) → is_under k p ≡ true → HasStored k p
of_under truths boolean h = (truth true, truth true, refl)
of_under (signed w) int32 h = (number (pos 0), number (pos 0), (leb-true w 32 h, stored_zero w, refl))
of_under (signed w) int64 h = (number (pos 0), number (pos 0), (eqb-true w 64 h, stored_zero w, refl))
of_under (unsigned w) int32 h = (number (pos 0), number _, (leb-true w 32 h, pow_pos w, refl))
of_under (unsigned w) int64 h = (number (pos 0), number _, (either (or_parts (w == 32) (w == 64) h), pow_pos w, refl))
  where
    either : ((w == 32) ≡ true) ⊎ ((w == 64) ≡ true) → (w ≡ 32) ⊎ (w ≡ 64)
    either (inl e) = inl (eqb-true w 32 e)
    either (inr e) = inr (eqb-true w 64 e)
of_under text byte_array h = (bytes [], bytes [], (IsUtf8-nil, refl))
of_under binary byte_array h = (bytes [], bytes [], refl)
of_under (fixed_bytes n) (fixed m) h = (bytes (replicate n 0), bytes (replicate n 0), (eqb-true n m h, length-replicate n 0, refl))
of_under decimal int32 h = (number (pos 0), number (pos 0), (stored_zero 32, refl))
of_under decimal int64 h = (number (pos 0), number (pos 0), (stored_zero 64, refl))
of_under decimal (fixed n) h =
    let parts = and_parts (nat_le 1 n) (nat_le n 16) h in
    (number (signed_big_endian (replicate n 0)), bytes (replicate n 0), (leb-true 1 n parts.0, leb-true n 16 parts.1, length-replicate n 0, refl))
of_under months (fixed n) h = (bytes (replicate 12 0), bytes (replicate 12 0), (sym (eqb-true 12 n h), refl, refl, refl))
of_under days (fixed n) h = (bytes (replicate 12 0), bytes (replicate 12 0), (sym (eqb-true 12 n h), refl, refl, refl))
of_under k p h = absurd (true≢false (sym h))

-- ---- rows

abbrev Agrees : Option Row → LeafType → Type 0
Agrees None k = Unit {0}
Agrees (Some row) k = (p : Physical) → allows row.stored p ≡ is_under k p

as_truths : (p : Physical) → allows S.Boolean p ≡ is_under truths p
as_truths boolean = refl
as_truths p = refl

as_signed : (w : ℕ) → leb w 32 ≡ true → (w == 64) ≡ false → (p : Physical) → allows S.Int32 p ≡ is_under (signed w) p
as_signed w a b int32 = sym a
as_signed w a b int64 = sym b
as_signed w a b p = refl

as_unsigned : (w : ℕ) → leb w 32 ≡ true → ((w == 32) || (w == 64)) ≡ false → (p : Physical) → allows S.Int32 p ≡ is_under (unsigned w) p
as_unsigned w a b int32 = sym a
as_unsigned w a b int64 = sym b
as_unsigned w a b p = refl

as_either : (p : Physical) → allows S.Int32OrInt64 p ≡ is_under (unsigned 32) p
as_either int32 = refl
as_either int64 = refl
as_either p = refl

as_long : (p : Physical) → allows S.Int64 p ≡ is_under (signed 64) p
as_long int32 = refl
as_long int64 = refl
as_long p = refl

as_unsigned_long : (p : Physical) → allows S.Int64 p ≡ is_under (unsigned 64) p
as_unsigned_long int32 = refl
as_unsigned_long int64 = refl
as_unsigned_long p = refl

as_text : (p : Physical) → allows S.ByteArray p ≡ is_under text p
as_text byte_array = refl
as_text p = refl

as_binary : (p : Physical) → allows S.ByteArray p ≡ is_under binary p
as_binary byte_array = refl
as_binary p = refl

as_fixed : (n : ℕ) (p : Physical) → allows (S.Fixed n) p ≡ is_under (fixed_bytes n) p
as_fixed n (fixed m) = refl
as_fixed n p = refl

as_decimal : (p : Physical) → allows S.Decimal p ≡ is_under decimal p
as_decimal int32 = refl
as_decimal int64 = refl
as_decimal (fixed n) = refl
as_decimal p = refl

as_months : (p : Physical) → allows (S.Fixed 12) p ≡ is_under months p
as_months (fixed n) = refl
as_months p = refl

as_days : (p : Physical) → allows (S.Fixed 12) p ≡ is_under days p
as_days (fixed n) = refl
as_days p = refl

fixed_agrees : (there nested : Bool) (n : ℕ) → Agrees (if there then Some (record { stored = S.Fixed n; is_nested = nested }) else None) (fixed_bytes n)
fixed_agrees true nested n = as_fixed n
fixed_agrees false nested n = tt

value_agrees : (b : Bool) (t : TypeTree) → is_null t ≡ false → Agrees (value_row b t) (leaf_type t)
value_agrees b t_null h = absurd (true≢false h)
value_agrees b t_boolean h = as_truths
value_agrees b t_int8 h = as_signed 8 refl refl
value_agrees b t_int16 h = as_signed 16 refl refl
value_agrees b t_int32 h = as_signed 32 refl refl
value_agrees b t_date32 h = as_signed 32 refl refl
value_agrees b (t_time32 Second) h = as_signed 32 refl refl
value_agrees b (t_time32 Millisecond) h = as_signed 32 refl refl
value_agrees b (t_time32 Microsecond) h = tt
value_agrees b (t_time32 Nanosecond) h = tt
value_agrees b t_uint8 h = as_unsigned 8 refl refl
value_agrees b t_uint16 h = as_unsigned 16 refl refl
value_agrees b t_uint32 h = as_either
value_agrees b t_int64 h = as_long
value_agrees b t_date64 h = as_long
value_agrees b (t_duration u) h = as_long
value_agrees b (t_timestamp u z) h = as_long
value_agrees b (t_time64 Microsecond) h = as_long
value_agrees b (t_time64 Nanosecond) h = as_long
value_agrees b (t_time64 Second) h = tt
value_agrees b (t_time64 Millisecond) h = tt
value_agrees b t_uint64 h = as_unsigned_long
value_agrees b t_utf8 h = as_text
value_agrees b t_large_utf8 h = as_text
value_agrees b t_binary h = as_binary
value_agrees b t_large_binary h = as_binary
value_agrees b (t_fixed_size_binary n) h = fixed_agrees (is_stored_length n) false n
value_agrees b (t_decimal p s) h = as_decimal
value_agrees b (t_interval YearMonth) h = as_months
value_agrees b (t_interval DayTime) h = as_days
value_agrees b (t_interval MonthDayNano) h = tt
value_agrees b t h = tt

entry_agrees : (t : TypeTree) → Agrees (entry_row t) (leaf_type t)
entry_agrees t_int8 = as_signed 8 refl refl
entry_agrees t_int16 = as_signed 16 refl refl
entry_agrees t_int32 = as_signed 32 refl refl
entry_agrees t_date32 = as_signed 32 refl refl
entry_agrees (t_time32 Second) = as_signed 32 refl refl
entry_agrees (t_time32 Millisecond) = as_signed 32 refl refl
entry_agrees (t_time32 Microsecond) = tt
entry_agrees (t_time32 Nanosecond) = tt
entry_agrees t_uint8 = as_unsigned 8 refl refl
entry_agrees t_uint16 = as_unsigned 16 refl refl
entry_agrees t_uint32 = as_either
entry_agrees t_int64 = as_long
entry_agrees t_date64 = as_long
entry_agrees (t_duration u) = as_long
entry_agrees (t_timestamp u z) = as_long
entry_agrees (t_time64 Microsecond) = as_long
entry_agrees (t_time64 Nanosecond) = as_long
entry_agrees (t_time64 Second) = tt
entry_agrees (t_time64 Millisecond) = tt
entry_agrees t_uint64 = as_unsigned_long
entry_agrees t_utf8 = as_text
entry_agrees t_large_utf8 = as_text
entry_agrees t_binary = as_binary
entry_agrees t_large_binary = as_binary
entry_agrees (t_fixed_size_binary n) = fixed_agrees (is_stored_length n) true n
entry_agrees t = tt

leaf_base : (t : TypeTree) → leaf_type (base t) ≡ leaf_type t
leaf_base (t_extension n t m) = leaf_base t
leaf_base t = refl

row_agrees : (b : Bool) (t : TypeTree) → is_null t ≡ false → Agrees (row_of (record { data_type = t; is_nullable = b })) (leaf_type t)
row_agrees b (t_dictionary keys t sorted) h = subst (Agrees (entry_row (base t))) (leaf_base t) (entry_agrees (base t))
row_agrees b t h = value_agrees b t h

no_null : (p : Physical) → HasStored nothing p → ⊥
no_null p h = absurd (true≢false (sym (under_of nothing p h.0 h.1 h.2)))

pub stored_by_rows : AreStoredByRows
stored_by_rows = record { rows = rows_are; null = no_null }
  where
    rows_are : (l : ArrowLeaf) (row : Row) (p : Physical) → row_of l ≡ Some row → is_null l.data_type ≡ false → (allows row.stored p ≡ true) ↔ HasStored (leaf_type l.data_type) p
    rows_are l row p e n =
        let k = leaf_type l.data_type in
        let agrees : Agrees (Some row) k = subst (λ o. Agrees o k) e (row_agrees l.is_nullable l.data_type n) in
        let same : allows row.stored p ≡ is_under k p = agrees p in
        (λ h. of_under k p (sym same ∙ h), λ h. same ∙ under_of k p h.0 h.1 h.2)
