-- What is stored of a leaf is what its row allows, in its unit.
use Rattle.std.proofs.Common.{◌≡◌, ℕ, zero, suc, ◌+◌, ◌-◌, ◌*◌, ◌^◌, ◌≤◌, Bool, true, false, cond, leb, is_some, Option, Some, None, refl, sym, ap, ◌∙◌, subst, true≢false, arith}
use Rattle.std.specs.Prelude.{if◌then◌else◌}
use Rattle.std.proofs.lemmas.Bool.{and_from, le-leb, eq-eqb}
use Rattle.columns_core.specs.declared.types.TimeUnit.TheVariants.{Second, Millisecond, Microsecond, Nanosecond}
use Rattle.columns_core.specs.declared.types.IntervalUnit.TheVariants.{YearMonth, DayTime}
use Rattle.columns_core.specs.Shapes.{base}
use Rattle.columns_core.specs.Tree.{TypeTree, t_null, t_boolean, t_uint64, t_timestamp, t_time32, t_time64, t_interval, t_fixed_size_binary, t_list, t_fixed_size_list, t_large_list, t_struct, t_map, t_dictionary, t_decimal, t_extension}
use Rattle.pq_tree.specs.Physical.{Physical, int32, int64, fixed}
use Rattle.pq_tree.specs.Types.{Info}
use Rattle.schema_fit.specs.declared.page_table.Stored.TheVariants as S
use Rattle.schema_fit.specs.declared.page_table.Row.{Row}
use Rattle.schema_fit.specs.declared.page_table.Asked.{Asked}
use Rattle.schema_fit.specs.declared.page_table.Asked.TheVariants as A
use Rattle.schema_fit.specs.PageTable.{allows, anywhere, only_flat, is_stored_length, value_row, entry_row, row_of, annotated_unit, value_unit, type_unit, no_other_unit, same_units, go_by, go_together}
use Rattle.schema_fit.specs.Skeleton.{bone, no_bones, one, under, StoredLeaf, ArrowLeaf, tree_bones, same_bones}
use Rattle.schema_map.specs.Rows.{allows_asked, has_row}
use Rattle.schema_map.proofs.Bones.{same_under}
use Rattle.schema_to_tree.specs.Length.{first_length, decimal_length}
use Rattle.schema_to_tree.specs.Table.{stored_as, marked, type_tree}

-- ---- the lengths of decimals

within : (p k n : ℕ) → (n ≤ first_length p k n) × (first_length p k n ≤ n + k)
unfolding first_length
within p zero n = (omega arith, omega arith)
within p (suc k) n = by (leb (10 ^ p + 1) (2 ^ (8 * n - 1))) (within p k (suc n))
  where
    by : (b : Bool) → (suc n ≤ first_length p k (suc n)) × (first_length p k (suc n) ≤ suc n + k) → (n ≤ cond b n (first_length p k (suc n))) × (cond b n (first_length p k (suc n)) ≤ n + suc k)
    by true h = (omega arith, omega arith)
    by false h = (omega (arith, h.0), omega (arith, h.1))

decimal_within : (p : ℕ) → (1 ≤ decimal_length p) × (decimal_length p ≤ 16)
unfolding decimal_length
decimal_within p = within p 15 1

decimal_allowed : (small middle : Bool) (n : ℕ) → 1 ≤ n → n ≤ 16 → allows S.Decimal (cond small int32 (cond middle int64 (fixed n))) ≡ true
decimal_allowed true middle n least most = refl
decimal_allowed false true n least most = refl
decimal_allowed false false n least most = and_from _ _ (le-leb 1 n least) (le-leb n 16 most)

-- ---- rows

-- the row has values that are stored so
abbrev stores : Option Row → Physical → Bool
stores None physical = false
stores (Some row) physical = allows row.stored physical

is_there : (asked : Asked) (row : Option Row) → allows_asked asked row ≡ true → is_some row ≡ true
is_there asked None h = h
is_there asked (Some row) h = refl

-- a type that may not be null has the row of the same type that may
nullable_row : (t : TypeTree) → is_some (value_row false t) ≡ true → value_row false t ≡ value_row true t
nullable_row t_null h = absurd (true≢false (sym h))
nullable_row (t_time32 Second) h = refl
nullable_row (t_time32 Millisecond) h = refl
nullable_row (t_time32 Microsecond) h = refl
nullable_row (t_time32 Nanosecond) h = refl
nullable_row (t_time64 Second) h = refl
nullable_row (t_time64 Millisecond) h = refl
nullable_row (t_time64 Microsecond) h = refl
nullable_row (t_time64 Nanosecond) h = refl
nullable_row (t_interval YearMonth) h = refl
nullable_row (t_interval DayTime) h = refl
nullable_row t h = refl

-- byte strings of a length, where pages have such
abbrev fixed_row : Bool → Bool → ℕ → Option Row
fixed_row has_length nested n = if has_length then Some (record { stored = S.Fixed n; is_nested = nested }) else None

fixed_stored : (has_length nested : Bool) (n : ℕ) → is_some (fixed_row has_length nested n) ≡ true → stores (fixed_row has_length nested n) (fixed n) ≡ true
fixed_stored true nested n h = eq-eqb n n refl
fixed_stored false nested n h = h

fixed_value : (has_length : Bool) (n : ℕ) → is_some (if has_length then anywhere (S.Fixed n) else None) ≡ true → is_some (if has_length then only_flat (S.Fixed n) else None) ≡ true
fixed_value true n h = refl
fixed_value false n h = h

value_stored : (t : TypeTree) → is_some (value_row true t) ≡ true → stores (value_row true t) (stored_as t).physical ≡ true
value_stored (t_timestamp Second z) h = h
value_stored (t_timestamp Millisecond z) h = h
value_stored (t_timestamp Microsecond z) h = h
value_stored (t_timestamp Nanosecond z) h = h
value_stored (t_time32 Second) h = h
value_stored (t_time32 Millisecond) h = h
value_stored (t_time32 Microsecond) h = h
value_stored (t_time32 Nanosecond) h = h
value_stored (t_time64 Second) h = h
value_stored (t_time64 Millisecond) h = h
value_stored (t_time64 Microsecond) h = h
value_stored (t_time64 Nanosecond) h = h
value_stored (t_interval YearMonth) h = h
value_stored (t_interval DayTime) h = h
value_stored (t_fixed_size_binary n) h = fixed_stored (is_stored_length n) false n h
value_stored (t_decimal p s) h = let w = decimal_within p in decimal_allowed (leb p 9) (leb p 18) (decimal_length p) w.0 w.1
value_stored t h = h

entry_stored : (t : TypeTree) → is_some (entry_row t) ≡ true → stores (entry_row t) (stored_as t).physical ≡ true
entry_stored t_null h = h
entry_stored t_boolean h = h
entry_stored (t_decimal p s) h = absurd (true≢false (sym h))
entry_stored (t_interval unit) h = absurd (true≢false (sym h))
entry_stored t_uint64 h = refl
entry_stored (t_timestamp Second z) h = refl
entry_stored (t_timestamp Millisecond z) h = refl
entry_stored (t_timestamp Microsecond z) h = refl
entry_stored (t_timestamp Nanosecond z) h = refl
entry_stored (t_fixed_size_binary n) h = fixed_stored (is_stored_length n) true n h
entry_stored t h = value_stored t h

-- what may be an entry may be a value
entry_value : (t : TypeTree) → is_some (entry_row t) ≡ true → is_some (value_row true t) ≡ true
entry_value t_null h = refl
entry_value t_boolean h = refl
entry_value (t_decimal p s) h = refl
entry_value (t_interval unit) h = absurd (true≢false (sym h))
entry_value t_uint64 h = refl
entry_value (t_timestamp unit z) h = refl
entry_value (t_fixed_size_binary n) h = fixed_value (is_stored_length n) n h
entry_value t h = h

-- ---- units

units_agree : (t : TypeTree) → no_other_unit (value_unit t) (annotated_unit (stored_as t).logical (stored_as t).converted) ≡ true
units_agree (t_timestamp Second z) = refl
units_agree (t_timestamp Millisecond z) = refl
units_agree (t_timestamp Microsecond z) = refl
units_agree (t_timestamp Nanosecond z) = refl
units_agree (t_time32 Second) = refl
units_agree (t_time32 Millisecond) = refl
units_agree (t_time32 Microsecond) = refl
units_agree (t_time32 Nanosecond) = refl
units_agree (t_time64 Second) = refl
units_agree (t_time64 Millisecond) = refl
units_agree (t_time64 Microsecond) = refl
units_agree (t_time64 Nanosecond) = refl
units_agree t = refl

own_unit : (t : TypeTree) → is_some (value_row true t) ≡ true → type_unit t ≡ value_unit t
own_unit (t_dictionary keys values is_sorted) h = absurd (true≢false (sym h))
own_unit t h = refl

-- ---- trees

abbrev leaf_at : Info → TypeTree → StoredLeaf
leaf_at i t = record { info = marked i (stored_as t).converted (stored_as t).logical; physical = (stored_as t).physical }

value_tree : (i : Info) (t : TypeTree) → is_some (value_row true t) ≡ true → tree_bones (type_tree i t) ≡ under i.repetition (bone (one (leaf_at i t)) no_bones)
value_tree i (t_list f) h = absurd (true≢false (sym h))
value_tree i (t_large_list f) h = absurd (true≢false (sym h))
value_tree i (t_fixed_size_list f n) h = absurd (true≢false (sym h))
value_tree i (t_map f sorted) h = absurd (true≢false (sym h))
value_tree i (t_struct fs) h = absurd (true≢false (sym h))
value_tree i (t_dictionary key t sorted) h = absurd (true≢false (sym h))
value_tree i (t_extension name t m) h = absurd (true≢false (sym h))
value_tree i t h = refl

base_tree : (t : TypeTree) (i : Info) → type_tree i t ≡ type_tree i (base t)
base_tree (t_extension name t m) i = base_tree t i
base_tree t i = refl

-- ---- leaves that go together

goes : (asked : Asked) (row : Option Row) (t : TypeTree) (l : StoredLeaf) → allows_asked asked row ≡ true → stores row l.physical ≡ true → same_units t l.info ≡ true → go_by asked row t l ≡ true
goes asked None t l h s u = absurd (true≢false (sym h))
goes A.Agreement (Some row) t l h s u = and_from _ _ h (and_from _ _ s u)
goes A.Flat (Some row) t l h s u = and_from _ _ h (and_from _ _ s u)
goes A.Nested (Some row) t l h s u = and_from _ _ h (and_from _ _ s u)

-- a leaf is stored as the type t is
leaf_fits : (asked : Asked) (i : Info) (l : ArrowLeaf) (t : TypeTree) → has_row asked l ≡ true → stores (row_of l) (stored_as t).physical ≡ true → type_unit l.data_type ≡ value_unit t
    → is_some (value_row true t) ≡ true → same_bones (go_together asked) (under i.repetition (bone (one l) no_bones)) (tree_bones (type_tree i t)) ≡ true
leaf_fits asked i l t h s u v =
    let units : same_units l.data_type (leaf_at i t).info ≡ true =
    ap (λ unit. no_other_unit unit (annotated_unit (stored_as t).logical (stored_as t).converted)) u ∙ units_agree t in
    let together = goes asked (row_of l) l.data_type (leaf_at i t) h s units in
    subst (λ ys. same_bones (go_together asked) (under i.repetition (bone (one l) no_bones)) ys ≡ true) (sym (value_tree i t v))
    (same_under (go_together asked) i.repetition (bone (one l) no_bones) (bone (one (leaf_at i t)) no_bones) (and_from _ _ together refl))

-- a value of its own type
value_at : (b : Bool) (t : TypeTree) → is_some (value_row b t) ≡ true → (stores (value_row b t) (stored_as t).physical ≡ true) × (is_some (value_row true t) ≡ true)
value_at true t h = (value_stored t h, h)
value_at false t h =
    let e = nullable_row t h in
    let there : is_some (value_row true t) ≡ true = subst (λ row. is_some row ≡ true) e h in
    (subst (λ row. stores row (stored_as t).physical ≡ true) (sym e) (value_stored t there), there)

pub value_fits : (asked : Asked) (i : Info) (b : Bool) (t : TypeTree) → row_of (record { data_type = t; is_nullable = b }) ≡ value_row b t → has_row asked (record { data_type = t; is_nullable = b }) ≡ true
    → same_bones (go_together asked) (under i.repetition (bone (one (record { data_type = t; is_nullable = b })) no_bones)) (tree_bones (type_tree i t)) ≡ true
value_fits asked i b t e h =
    let l : ArrowLeaf = record { data_type = t; is_nullable = b } in
    let there : is_some (value_row b t) ≡ true = subst (λ row. is_some row ≡ true) e (is_there asked (row_of l) h) in
    let v = value_at b t there in
    leaf_fits asked i l t h (subst (λ row. stores row (stored_as t).physical ≡ true) (sym e) v.0) (own_unit t v.1) v.1

-- a dictionary, by the type of its entries
pub dictionary_fits : (asked : Asked) (i : Info) (l : ArrowLeaf) (values : TypeTree) → row_of l ≡ entry_row (base values) → type_unit l.data_type ≡ value_unit (base values) → has_row asked l ≡ true
    → same_bones (go_together asked) (under i.repetition (bone (one l) no_bones)) (tree_bones (type_tree i values)) ≡ true
dictionary_fits asked i l values e u h =
    let t = base values in
    let there : is_some (entry_row t) ≡ true = subst (λ row. is_some row ≡ true) e (is_there asked (row_of l) h) in
    subst (λ tree. same_bones (go_together asked) (under i.repetition (bone (one l) no_bones)) (tree_bones tree) ≡ true) (sym (base_tree values i))
    (leaf_fits asked i l t h (subst (λ row. stores row (stored_as t).physical ≡ true) (sym e) (entry_stored t there)) u (entry_value t there))
