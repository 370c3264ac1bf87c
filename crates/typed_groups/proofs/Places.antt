-- Leaves of served types are written in their places.
use Rattle.std.proofs.Common.{◌≡◌, ℕ, None, Bool, true, false, true≢false, sym, refl}
use Rattle.std.specs.Prelude.{◌&&◌, if◌then◌else◌}
use Rattle.std.proofs.lemmas.Bool.{and_parts, and_from}
use Rattle.columns_core.specs.Shapes.{base}
use Rattle.columns_core.specs.Tree.{TypeTree, t_null, t_boolean, t_int8, t_int16, t_int32, t_int64, t_uint8, t_uint16, t_uint32, t_uint64, t_float16, t_float32, t_float64, t_timestamp, t_date32, t_date64, t_time32, t_time64, t_duration, t_interval, t_binary, t_fixed_size_binary, t_large_binary, t_utf8, t_large_utf8, t_list, t_fixed_size_list, t_large_list, t_struct, t_union, t_map, t_dictionary, t_decimal, t_decimal256, t_extension, FieldTree, field, FieldTrees, no_fields, more_fields}
use Rattle.columns_core.specs.declared.types.IntervalUnit.TheVariants.{YearMonth, DayTime, MonthDayNano}
use Rattle.columns_core.specs.declared.types.TimeUnit.TheVariants.{Second, Millisecond, Microsecond, Nanosecond}
use Rattle.pq_headline.specs.Openings.{CanBeWritten}
use Rattle.pq_headline.specs.Served.{is_served_type, is_served_field, are_served_fields}
use Rattle.schema_fit.specs.Fits.{asked_of}
use Rattle.schema_fit.specs.PageTable.{is_stored_length, only_flat}
use Rattle.schema_fit.specs.Skeleton.{Bones, no_bones, bone, and_then, under, repetition_of, type_bones, field_bones, fields_bones}
use Rattle.schema_fit.specs.declared.page_table.Asked.TheVariants as A
use Rattle.schema_fit.specs.declared.page_table.Stored.TheVariants as S
use Rattle.pq_tree.specs.Types.{Repetition, required, optional, repeated}
use Rattle.schema_map.specs.Rows.{all_bone, all_bones, allows_asked, has_row}
use Rattle.write_pages.specs.Fits.{is_written_in}

-- Each leaf of a type is written where it stands: as a column of its own, or beneath lists or structs. One of nulls alone may be null.
abbrev mutual
  pub is_placed : Bool → Bool → TypeTree → Bool
  is_placed flat is_nullable t_null = is_nullable
  is_placed flat is_nullable (t_list item) = is_placed_field item
  is_placed flat is_nullable (t_large_list item) = is_placed_field item
  is_placed flat is_nullable (t_fixed_size_list item n) = false
  is_placed flat is_nullable (t_map entry is_sorted) = is_placed_field entry
  is_placed flat is_nullable (t_struct fs) = are_placed fs
  is_placed flat is_nullable (t_union fs ids is_sparse) = false
  is_placed flat is_nullable (t_dictionary key t is_sorted) = false
  is_placed flat is_nullable (t_extension name inner metadata) = is_placed flat is_nullable inner
  is_placed flat is_nullable t = is_written_in flat t

  pub is_placed_field : FieldTree → Bool
  is_placed_field (field name t is_nullable metadata) = is_placed false is_nullable t

  pub are_placed : FieldTrees → Bool
  are_placed no_fields = true
  are_placed (more_fields f fs) = is_placed_field f && are_placed fs

-- those of each field
abbrev pub AreInPlace : FieldTrees → Type 0
AreInPlace no_fields = Unit {0}
AreInPlace (more_fields (field name t is_nullable metadata) fs) = (is_placed true is_nullable t ≡ true) × AreInPlace fs

-- ---- a leaf

-- a type whose row is there if a test holds, and stands for flat columns alone
if_flat : (c : Bool) (n : ℕ) → allows_asked A.Flat (if c then only_flat (S.Fixed n) else None) ≡ true → c ≡ true
if_flat true n h = refl
if_flat false n h = absurd (true≢false (sym h))

never_nested : (c : Bool) (n : ℕ) → allows_asked A.Nested (if c then only_flat (S.Fixed n) else None) ≡ true → ⊥
never_nested true n h = true≢false (sym h)
never_nested false n h = true≢false (sym h)

-- ---- leaves under a node, and of two nodes one after another

module _ {A : Type 0} (p : A → Bool) where
  all_beneath : (r : Repetition) (xs : Bones A) → all_bones p (under r xs) ≡ true → all_bones p xs ≡ true
  all_beneath r no_bones h = refl
  all_beneath required (bone x xs) h = h
  all_beneath optional (bone x xs) h = (and_parts _ _ h).0
  all_beneath repeated (bone x xs) h = (and_parts _ _ h).0

  all_parts : (xs ys : Bones A) → all_bones p (and_then xs ys) ≡ true → (all_bones p xs ≡ true) × (all_bones p ys ≡ true)
  all_parts no_bones ys h = (refl, h)
  all_parts (bone x xs) ys h =
      let first = and_parts (all_bone p x) (all_bones p (and_then xs ys)) h in
      let more = all_parts xs ys first.1 in
      (and_from _ _ first.0 more.0, more.1)

-- ---- beneath lists and structs

mutual
  type_nested : (b : Bool) (t : TypeTree) → is_served_type t ≡ true → all_bones (has_row A.Nested) (type_bones b t) ≡ true → is_placed false b t ≡ true
  type_nested b (t_list f) s h = field_nested f s (all_beneath (has_row A.Nested) repeated (field_bones f) h)
  type_nested b (t_large_list f) s h = field_nested f s (all_beneath (has_row A.Nested) repeated (field_bones f) h)
  type_nested b (t_map f z) s h = field_nested f s (all_beneath (has_row A.Nested) repeated (field_bones f) h)
  type_nested b (t_struct fs) s h = fields_nested fs s h
  type_nested b (t_extension n t m) s h = type_nested b t s h
  type_nested b t_boolean s h = refl
  type_nested b t_int8 s h = refl
  type_nested b t_int16 s h = refl
  type_nested b t_int32 s h = refl
  type_nested b t_int64 s h = refl
  type_nested b t_uint8 s h = refl
  type_nested b t_uint16 s h = refl
  type_nested b t_uint32 s h = refl
  type_nested b t_uint64 s h = refl
  type_nested b t_date32 s h = refl
  type_nested b t_date64 s h = refl
  type_nested b (t_time32 Second) s h = refl
  type_nested b (t_time32 Millisecond) s h = refl
  type_nested b (t_time64 Microsecond) s h = refl
  type_nested b (t_time64 Nanosecond) s h = refl
  type_nested b (t_timestamp u z) s h = refl
  type_nested b (t_duration u) s h = refl
  type_nested b t_utf8 s h = refl
  type_nested b t_large_utf8 s h = refl
  type_nested b t_binary s h = refl
  type_nested b t_large_binary s h = refl
  type_nested true t_float16 s h = absurd (true≢false (sym h))
  type_nested false t_float16 s h = absurd (true≢false (sym h))
  type_nested true t_float32 s h = absurd (true≢false (sym h))
  type_nested false t_float32 s h = absurd (true≢false (sym h))
  type_nested true t_float64 s h = absurd (true≢false (sym h))
  type_nested false t_float64 s h = absurd (true≢false (sym h))
  type_nested true (t_time32 Microsecond) s h = absurd (true≢false (sym h))
  type_nested false (t_time32 Microsecond) s h = absurd (true≢false (sym h))
  type_nested true (t_time32 Nanosecond) s h = absurd (true≢false (sym h))
  type_nested false (t_time32 Nanosecond) s h = absurd (true≢false (sym h))
  type_nested true (t_time64 Second) s h = absurd (true≢false (sym h))
  type_nested false (t_time64 Second) s h = absurd (true≢false (sym h))
  type_nested true (t_time64 Millisecond) s h = absurd (true≢false (sym h))
  type_nested false (t_time64 Millisecond) s h = absurd (true≢false (sym h))
  type_nested true (t_interval MonthDayNano) s h = absurd (true≢false (sym h))
  type_nested false (t_interval MonthDayNano) s h = absurd (true≢false (sym h))
  type_nested true (t_decimal256 p q) s h = absurd (true≢false (sym h))
  type_nested false (t_decimal256 p q) s h = absurd (true≢false (sym h))
  type_nested b (t_fixed_size_list item w) s h = absurd (true≢false (sym s))
  type_nested b (t_union fs ids sparse) s h = absurd (true≢false (sym s))
  type_nested true (t_interval YearMonth) s h = absurd (true≢false (sym h))
  type_nested false (t_interval YearMonth) s h = absurd (true≢false (sym h))
  type_nested true (t_interval DayTime) s h = absurd (true≢false (sym h))
  type_nested false (t_interval DayTime) s h = absurd (true≢false (sym h))
  type_nested true (t_decimal p q) s h = absurd (true≢false (sym h))
  type_nested true (t_fixed_size_binary n) s h = absurd (never_nested (is_stored_length n) n (and_parts _ _ h).0)
  type_nested false (t_decimal p q) s h = absurd (true≢false (sym h))
  type_nested false (t_fixed_size_binary n) s h = absurd (never_nested (is_stored_length n) n (and_parts _ _ h).0)
  type_nested true t_null s h = refl
  type_nested false t_null s h = absurd (true≢false (sym h))
  type_nested b (t_dictionary k t z) s h = absurd (true≢false (sym s))

  field_nested : (f : FieldTree) → is_served_field f ≡ true → all_bones (has_row A.Nested) (field_bones f) ≡ true → is_placed_field f ≡ true
  field_nested (field n t b m) s h = type_nested b t s (all_beneath (has_row A.Nested) (repetition_of b) (type_bones b t) h)

  fields_nested : (fs : FieldTrees) → are_served_fields fs ≡ true → all_bones (has_row A.Nested) (fields_bones fs) ≡ true → are_placed fs ≡ true
  fields_nested no_fields s h = refl
  fields_nested (more_fields f fs) s h =
      let ss = and_parts (is_served_field f) (are_served_fields fs) s in
      let hs = all_parts (has_row A.Nested) (field_bones f) (fields_bones fs) h in
      and_from _ _ (field_nested f ss.0 hs.0) (fields_nested fs ss.1 hs.1)

-- ---- a field's own type

type_flat : (b : Bool) (t : TypeTree) → is_served_type t ≡ true → all_bones (has_row (asked_of (base t))) (type_bones b t) ≡ true → is_placed true b t ≡ true
type_flat b (t_list f) s h = type_nested b (t_list f) s h
type_flat b (t_large_list f) s h = type_nested b (t_large_list f) s h
type_flat b (t_map f z) s h = type_nested b (t_map f z) s h
type_flat b (t_struct fs) s h = type_nested b (t_struct fs) s h
type_flat b (t_extension n t m) s h = type_flat b t s h
type_flat b t_boolean s h = refl
type_flat b t_int8 s h = refl
type_flat b t_int16 s h = refl
type_flat b t_int32 s h = refl
type_flat b t_int64 s h = refl
type_flat b t_uint8 s h = refl
type_flat b t_uint16 s h = refl
type_flat b t_uint32 s h = refl
type_flat b t_uint64 s h = refl
type_flat b t_date32 s h = refl
type_flat b t_date64 s h = refl
type_flat b (t_time32 Second) s h = refl
type_flat b (t_time32 Millisecond) s h = refl
type_flat b (t_time64 Microsecond) s h = refl
type_flat b (t_time64 Nanosecond) s h = refl
type_flat b (t_timestamp u z) s h = refl
type_flat b (t_duration u) s h = refl
type_flat b t_utf8 s h = refl
type_flat b t_large_utf8 s h = refl
type_flat b t_binary s h = refl
type_flat b t_large_binary s h = refl
type_flat true t_float16 s h = absurd (true≢false (sym h))
type_flat false t_float16 s h = absurd (true≢false (sym h))
type_flat true t_float32 s h = absurd (true≢false (sym h))
type_flat false t_float32 s h = absurd (true≢false (sym h))
type_flat true t_float64 s h = absurd (true≢false (sym h))
type_flat false t_float64 s h = absurd (true≢false (sym h))
type_flat true (t_time32 Microsecond) s h = absurd (true≢false (sym h))
type_flat false (t_time32 Microsecond) s h = absurd (true≢false (sym h))
type_flat true (t_time32 Nanosecond) s h = absurd (true≢false (sym h))
type_flat false (t_time32 Nanosecond) s h = absurd (true≢false (sym h))
type_flat true (t_time64 Second) s h = absurd (true≢false (sym h))
type_flat false (t_time64 Second) s h = absurd (true≢false (sym h))
type_flat true (t_time64 Millisecond) s h = absurd (true≢false (sym h))
type_flat false (t_time64 Millisecond) s h = absurd (true≢false (sym h))
type_flat true (t_interval MonthDayNano) s h = absurd (true≢false (sym h))
type_flat false (t_interval MonthDayNano) s h = absurd (true≢false (sym h))
type_flat true (t_decimal256 p q) s h = absurd (true≢false (sym h))
type_flat false (t_decimal256 p q) s h = absurd (true≢false (sym h))
type_flat b (t_fixed_size_list item w) s h = absurd (true≢false (sym s))
type_flat b (t_union fs ids sparse) s h = absurd (true≢false (sym s))
type_flat b (t_interval YearMonth) s h = refl
type_flat b (t_interval DayTime) s h = refl
type_flat b (t_decimal p q) s h = refl
type_flat true (t_fixed_size_binary n) s h = if_flat (is_stored_length n) n (and_parts _ _ h).0
type_flat false (t_fixed_size_binary n) s h = if_flat (is_stored_length n) n (and_parts _ _ h).0
type_flat true t_null s h = refl
type_flat false t_null s h = absurd (true≢false (sym h))
type_flat b (t_dictionary k t z) s h = absurd (true≢false (sym s))

pub all_in_place : (fs : FieldTrees) → CanBeWritten fs → are_served_fields fs ≡ true → AreInPlace fs
all_in_place no_fields h s = tt
all_in_place (more_fields (field n t b m) fs) h s =
    let ss = and_parts (is_served_type t) (are_served_fields fs) s in
    (type_flat b t ss.0 (all_beneath (has_row (asked_of (base t))) (repetition_of b) (type_bones b t) h.0), all_in_place fs h.2 ss.1)
