-- What is served and has its row in the page table is read.
use Rattle.std.proofs.Common.{◌≡◌, ℕ, zero, suc, ◌==◌, Bool, true, false, Some, List, [], ◌∷◌, map, refl, sym, ap, ◌∙◌, true≢false}
use Rattle.std.proofs.lemmas.Bool.{eqb-true, and_parts, and_from}
use Rattle.std.specs.Prelude.{◌&&◌, None, nat_le, if◌then◌else◌}
use Rattle.std.specs.List.{AllZip, AllByRecursion as Each}
use Rattle.shredding.proofs.Levels.{Each-append}
use Rattle.columns_core.specs.Tree.{TypeTree, t_null, t_boolean, t_int8, t_int16, t_int32, t_int64, t_uint8, t_uint16, t_uint32, t_uint64, t_float16, t_float32, t_float64, t_timestamp, t_date32, t_date64, t_time32, t_time64, t_duration, t_binary, t_fixed_size_binary, t_large_binary, t_utf8, t_large_utf8, t_decimal, t_decimal256, t_interval, t_list, t_fixed_size_list, t_large_list, t_struct, t_union, t_map, t_dictionary, t_extension, FieldTree, field, FieldTrees, no_fields, more_fields}
use Rattle.columns_core.specs.declared.types.IntervalUnit.TheVariants.{YearMonth, DayTime, MonthDayNano}
use Rattle.columns_core.specs.declared.types.TimeUnit.TheVariants.{Second, Millisecond, Microsecond, Nanosecond}
use Rattle.pq_tree.specs.Physical.{Physical, boolean, int32, int64, byte_array, fixed}
use Rattle.pq_tree.specs.Tree.{Leaf}
use Rattle.schema_fit.specs.declared.page_table.Asked.{Asked}
use Rattle.schema_fit.specs.declared.page_table.Row.{Row}
use Rattle.schema_fit.specs.declared.page_table.Stored.{Stored}
use Rattle.schema_fit.specs.declared.page_table.Stored.TheVariants as S
use Rattle.schema_fit.specs.PageTable.{allows, is_stored_length, only_flat, row_of}
use Rattle.schema_map.specs.Rows.{asked_by}
use Rattle.pq_headline.specs.Columns.{ArrowColumn, type_columns, field_columns, columns_from, beneath_list, beneath_struct, ends_nullable, small_limit, large_limit}
use Rattle.pq_headline.specs.Openings.{IsAlike, AreAlike}
use Rattle.pq_headline.specs.Served.{is_served_type, is_served_field, are_served_fields}
use Rattle.read_types.specs.LeafTypes.{is_read, reads_interval}
use Rattle.assembly.specs.Read.{IsLeafRead, IsRead, reads_nodes, reads_nodes_of, reads_nodes_of_all, value_type}

-- ---- leaves

-- what holds of the physical types that a row allows
of_truths : (P : Physical → Type 0) → P boolean → (p : Physical) → allows S.Boolean p ≡ true → P p
of_truths P h boolean e = h
of_truths P h p e = absurd (true≢false (sym e))

of_32 : (P : Physical → Type 0) → P int32 → (p : Physical) → allows S.Int32 p ≡ true → P p
of_32 P h int32 e = h
of_32 P h p e = absurd (true≢false (sym e))

of_64 : (P : Physical → Type 0) → P int64 → (p : Physical) → allows S.Int64 p ≡ true → P p
of_64 P h int64 e = h
of_64 P h p e = absurd (true≢false (sym e))

of_either : (P : Physical → Type 0) → P int32 → P int64 → (p : Physical) → allows S.Int32OrInt64 p ≡ true → P p
of_either P h g int32 e = h
of_either P h g int64 e = g
of_either P h g p e = absurd (true≢false (sym e))

of_strings : (P : Physical → Type 0) → P byte_array → (p : Physical) → allows S.ByteArray p ≡ true → P p
of_strings P h byte_array e = h
of_strings P h p e = absurd (true≢false (sym e))

of_fixed : (n : ℕ) (P : Physical → Type 0) → ((m : ℕ) → (n == m) ≡ true → P (fixed m)) → (p : Physical) → allows (S.Fixed n) p ≡ true → P p
of_fixed n P h (fixed m) e = h m e
of_fixed n P h p e = absurd (true≢false (sym e))

of_decimals : (P : Physical → Type 0) → P int32 → P int64 → ((m : ℕ) → (nat_le 1 m && nat_le m 16) ≡ true → P (fixed m)) → (p : Physical) → allows S.Decimal p ≡ true → P p
of_decimals P h g f int32 e = h
of_decimals P h g f int64 e = g
of_decimals P h g f (fixed m) e = f m e
of_decimals P h g f p e = absurd (true≢false (sym e))

row_is : (r q : Row) → Some r ≡ Some q → r ≡ q
row_is r q e = cc

no_row : (r : Row) → None ≡ Some r → ⊥
no_row r e = cc

-- a row that is there if a test holds
row_if : (c : Bool) (n : ℕ) (r : Row) → (if c then only_flat (S.Fixed n) else None) ≡ Some r → (c ≡ true) × (r.stored ≡ S.Fixed n)
row_if true n r e = (refl, ap (λ (x : Row). x.stored) (sym (row_is _ r e)))
row_if false n r e = absurd (no_row r e)

other_way : (m n : ℕ) → (n == m) ≡ true → (m == n) ≡ true
other_way m n e = ap (λ (k : ℕ). k == n) (sym (eqb-true n m e)) ∙ (ap (λ (k : ℕ). n == k) (eqb-true n m e) ∙ e)

abbrev Reads : TypeTree → Physical → Type 0
Reads t p = is_read t p ≡ true

of_length : (n : ℕ) → is_stored_length n ≡ true → (m : ℕ) → (n == m) ≡ true → Reads (t_fixed_size_binary n) (fixed m)
of_length n c m e = and_from (m == n) (is_stored_length n) (other_way m n e) c

-- what a row says is stored, and its type is served
by_stored : (stored : Stored) (t : TypeTree) (p : Physical) (r : Row) → r.stored ≡ stored → ((q : Physical) → allows stored q ≡ true → Reads t q) → allows r.stored p ≡ true → Reads t p
by_stored stored t p r e h a = h p (ap (λ (s : Stored). allows s p) (sym e) ∙ a)

stored_in : (q r : Row) → Some q ≡ Some r → r.stored ≡ q.stored
stored_in q r e = ap (λ (x : Row). x.stored) (sym (row_is q r e))

leaf_read : (b : Bool) (t : TypeTree) (p : Physical) (r : Row) → is_served_type t ≡ true → row_of (record { data_type = t; is_nullable = b }) ≡ Some r → allows r.stored p ≡ true → Reads t p
leaf_read true t_boolean p r s e a = by_stored S.Boolean t_boolean p r (stored_in _ r e) (of_truths (Reads t_boolean) refl) a
leaf_read false t_boolean p r s e a = by_stored S.Boolean t_boolean p r (stored_in _ r e) (of_truths (Reads t_boolean) refl) a
leaf_read true t_int8 p r s e a = by_stored S.Int32 t_int8 p r (stored_in _ r e) (of_32 (Reads t_int8) refl) a
leaf_read false t_int8 p r s e a = by_stored S.Int32 t_int8 p r (stored_in _ r e) (of_32 (Reads t_int8) refl) a
leaf_read true t_int16 p r s e a = by_stored S.Int32 t_int16 p r (stored_in _ r e) (of_32 (Reads t_int16) refl) a
leaf_read false t_int16 p r s e a = by_stored S.Int32 t_int16 p r (stored_in _ r e) (of_32 (Reads t_int16) refl) a
leaf_read true t_int32 p r s e a = by_stored S.Int32 t_int32 p r (stored_in _ r e) (of_32 (Reads t_int32) refl) a
leaf_read false t_int32 p r s e a = by_stored S.Int32 t_int32 p r (stored_in _ r e) (of_32 (Reads t_int32) refl) a
leaf_read true t_uint8 p r s e a = by_stored S.Int32 t_uint8 p r (stored_in _ r e) (of_32 (Reads t_uint8) refl) a
leaf_read false t_uint8 p r s e a = by_stored S.Int32 t_uint8 p r (stored_in _ r e) (of_32 (Reads t_uint8) refl) a
leaf_read true t_uint16 p r s e a = by_stored S.Int32 t_uint16 p r (stored_in _ r e) (of_32 (Reads t_uint16) refl) a
leaf_read false t_uint16 p r s e a = by_stored S.Int32 t_uint16 p r (stored_in _ r e) (of_32 (Reads t_uint16) refl) a
leaf_read true t_date32 p r s e a = by_stored S.Int32 t_date32 p r (stored_in _ r e) (of_32 (Reads t_date32) refl) a
leaf_read false t_date32 p r s e a = by_stored S.Int32 t_date32 p r (stored_in _ r e) (of_32 (Reads t_date32) refl) a
leaf_read true (t_time32 Second) p r s e a = by_stored S.Int32 (t_time32 Second) p r (stored_in _ r e) (of_32 (Reads (t_time32 Second)) refl) a
leaf_read false (t_time32 Second) p r s e a = by_stored S.Int32 (t_time32 Second) p r (stored_in _ r e) (of_32 (Reads (t_time32 Second)) refl) a
leaf_read true (t_time32 Millisecond) p r s e a = by_stored S.Int32 (t_time32 Millisecond) p r (stored_in _ r e) (of_32 (Reads (t_time32 Millisecond)) refl) a
leaf_read false (t_time32 Millisecond) p r s e a = by_stored S.Int32 (t_time32 Millisecond) p r (stored_in _ r e) (of_32 (Reads (t_time32 Millisecond)) refl) a
leaf_read true t_uint32 p r s e a = by_stored S.Int32OrInt64 t_uint32 p r (stored_in _ r e) (of_either (Reads t_uint32) refl refl) a
leaf_read false t_uint32 p r s e a = by_stored S.Int32OrInt64 t_uint32 p r (stored_in _ r e) (of_either (Reads t_uint32) refl refl) a
leaf_read true t_int64 p r s e a = by_stored S.Int64 t_int64 p r (stored_in _ r e) (of_64 (Reads t_int64) refl) a
leaf_read false t_int64 p r s e a = by_stored S.Int64 t_int64 p r (stored_in _ r e) (of_64 (Reads t_int64) refl) a
leaf_read true t_uint64 p r s e a = by_stored S.Int64 t_uint64 p r (stored_in _ r e) (of_64 (Reads t_uint64) refl) a
leaf_read false t_uint64 p r s e a = by_stored S.Int64 t_uint64 p r (stored_in _ r e) (of_64 (Reads t_uint64) refl) a
leaf_read true t_date64 p r s e a = by_stored S.Int64 t_date64 p r (stored_in _ r e) (of_64 (Reads t_date64) refl) a
leaf_read false t_date64 p r s e a = by_stored S.Int64 t_date64 p r (stored_in _ r e) (of_64 (Reads t_date64) refl) a
leaf_read true (t_time64 Microsecond) p r s e a = by_stored S.Int64 (t_time64 Microsecond) p r (stored_in _ r e) (of_64 (Reads (t_time64 Microsecond)) refl) a
leaf_read false (t_time64 Microsecond) p r s e a = by_stored S.Int64 (t_time64 Microsecond) p r (stored_in _ r e) (of_64 (Reads (t_time64 Microsecond)) refl) a
leaf_read true (t_time64 Nanosecond) p r s e a = by_stored S.Int64 (t_time64 Nanosecond) p r (stored_in _ r e) (of_64 (Reads (t_time64 Nanosecond)) refl) a
leaf_read false (t_time64 Nanosecond) p r s e a = by_stored S.Int64 (t_time64 Nanosecond) p r (stored_in _ r e) (of_64 (Reads (t_time64 Nanosecond)) refl) a
leaf_read true (t_timestamp u z) p r s e a = by_stored S.Int64 (t_timestamp u z) p r (stored_in _ r e) (of_64 (Reads (t_timestamp u z)) refl) a
leaf_read false (t_timestamp u z) p r s e a = by_stored S.Int64 (t_timestamp u z) p r (stored_in _ r e) (of_64 (Reads (t_timestamp u z)) refl) a
leaf_read true (t_duration u) p r s e a = by_stored S.Int64 (t_duration u) p r (stored_in _ r e) (of_64 (Reads (t_duration u)) refl) a
leaf_read false (t_duration u) p r s e a = by_stored S.Int64 (t_duration u) p r (stored_in _ r e) (of_64 (Reads (t_duration u)) refl) a
leaf_read true t_utf8 p r s e a = by_stored S.ByteArray t_utf8 p r (stored_in _ r e) (of_strings (Reads t_utf8) refl) a
leaf_read false t_utf8 p r s e a = by_stored S.ByteArray t_utf8 p r (stored_in _ r e) (of_strings (Reads t_utf8) refl) a
leaf_read true t_large_utf8 p r s e a = by_stored S.ByteArray t_large_utf8 p r (stored_in _ r e) (of_strings (Reads t_large_utf8) refl) a
leaf_read false t_large_utf8 p r s e a = by_stored S.ByteArray t_large_utf8 p r (stored_in _ r e) (of_strings (Reads t_large_utf8) refl) a
leaf_read true t_binary p r s e a = by_stored S.ByteArray t_binary p r (stored_in _ r e) (of_strings (Reads t_binary) refl) a
leaf_read false t_binary p r s e a = by_stored S.ByteArray t_binary p r (stored_in _ r e) (of_strings (Reads t_binary) refl) a
leaf_read true t_large_binary p r s e a = by_stored S.ByteArray t_large_binary p r (stored_in _ r e) (of_strings (Reads t_large_binary) refl) a
leaf_read false t_large_binary p r s e a = by_stored S.ByteArray t_large_binary p r (stored_in _ r e) (of_strings (Reads t_large_binary) refl) a
leaf_read true (t_decimal x y) p r s e a = by_stored S.Decimal (t_decimal x y) p r (stored_in _ r e) (of_decimals (Reads (t_decimal x y)) refl refl (λ m h. h)) a
leaf_read false (t_decimal x y) p r s e a = by_stored S.Decimal (t_decimal x y) p r (stored_in _ r e) (of_decimals (Reads (t_decimal x y)) refl refl (λ m h. h)) a
leaf_read true (t_interval YearMonth) p r s e a = by_stored (S.Fixed 12) (t_interval YearMonth) p r (stored_in _ r e) (of_fixed 12 (Reads (t_interval YearMonth)) (λ m h. and_from (m == 12) (reads_interval (t_interval YearMonth)) (other_way m 12 h) refl)) a
leaf_read false (t_interval YearMonth) p r s e a = by_stored (S.Fixed 12) (t_interval YearMonth) p r (stored_in _ r e) (of_fixed 12 (Reads (t_interval YearMonth)) (λ m h. and_from (m == 12) (reads_interval (t_interval YearMonth)) (other_way m 12 h) refl)) a
leaf_read true (t_interval DayTime) p r s e a = by_stored (S.Fixed 12) (t_interval DayTime) p r (stored_in _ r e) (of_fixed 12 (Reads (t_interval DayTime)) (λ m h. and_from (m == 12) (reads_interval (t_interval DayTime)) (other_way m 12 h) refl)) a
leaf_read false (t_interval DayTime) p r s e a = by_stored (S.Fixed 12) (t_interval DayTime) p r (stored_in _ r e) (of_fixed 12 (Reads (t_interval DayTime)) (λ m h. and_from (m == 12) (reads_interval (t_interval DayTime)) (other_way m 12 h) refl)) a
leaf_read true (t_fixed_size_binary n) p r s e a = let k = row_if (is_stored_length n) n r e in by_stored (S.Fixed n) (t_fixed_size_binary n) p r k.1 (of_fixed n (Reads (t_fixed_size_binary n)) (of_length n k.0)) a
leaf_read false (t_fixed_size_binary n) p r s e a = let k = row_if (is_stored_length n) n r e in by_stored (S.Fixed n) (t_fixed_size_binary n) p r k.1 (of_fixed n (Reads (t_fixed_size_binary n)) (of_length n k.0)) a
leaf_read true t_null p r s e a = by_stored S.Int32 t_null p r (stored_in _ r e) (of_32 (Reads t_null) refl) a
leaf_read false t_null p r s e a = absurd (no_row r e)
leaf_read b (t_dictionary k t z) p r s e a = absurd (true≢false (sym s))
leaf_read true t_float16 p r s e a = absurd (no_row r e)
leaf_read false t_float16 p r s e a = absurd (no_row r e)
leaf_read true t_float32 p r s e a = absurd (no_row r e)
leaf_read false t_float32 p r s e a = absurd (no_row r e)
leaf_read true t_float64 p r s e a = absurd (no_row r e)
leaf_read false t_float64 p r s e a = absurd (no_row r e)
leaf_read true (t_time32 Microsecond) p r s e a = absurd (no_row r e)
leaf_read false (t_time32 Microsecond) p r s e a = absurd (no_row r e)
leaf_read true (t_time32 Nanosecond) p r s e a = absurd (no_row r e)
leaf_read false (t_time32 Nanosecond) p r s e a = absurd (no_row r e)
leaf_read true (t_time64 Second) p r s e a = absurd (no_row r e)
leaf_read false (t_time64 Second) p r s e a = absurd (no_row r e)
leaf_read true (t_time64 Millisecond) p r s e a = absurd (no_row r e)
leaf_read false (t_time64 Millisecond) p r s e a = absurd (no_row r e)
leaf_read true (t_interval MonthDayNano) p r s e a = absurd (no_row r e)
leaf_read false (t_interval MonthDayNano) p r s e a = absurd (no_row r e)
leaf_read true (t_decimal256 x y) p r s e a = absurd (no_row r e)
leaf_read false (t_decimal256 x y) p r s e a = absurd (no_row r e)
leaf_read true (t_list f) p r s e a = absurd (no_row r e)
leaf_read false (t_list f) p r s e a = absurd (no_row r e)
leaf_read true (t_large_list f) p r s e a = absurd (no_row r e)
leaf_read false (t_large_list f) p r s e a = absurd (no_row r e)
leaf_read true (t_fixed_size_list f n) p r s e a = absurd (no_row r e)
leaf_read false (t_fixed_size_list f n) p r s e a = absurd (no_row r e)
leaf_read true (t_struct fs) p r s e a = absurd (no_row r e)
leaf_read false (t_struct fs) p r s e a = absurd (no_row r e)
leaf_read true (t_map f z) p r s e a = absurd (no_row r e)
leaf_read false (t_map f z) p r s e a = absurd (no_row r e)
leaf_read true (t_union fs ids z) p r s e a = absurd (no_row r e)
leaf_read false (t_union fs ids z) p r s e a = absurd (no_row r e)
leaf_read true (t_extension n t m) p r s e a = absurd (no_row r e)
leaf_read false (t_extension n t m) p r s e a = absurd (no_row r e)

-- ---- the columns of a served field are of types that are served

abbrev IsServedColumn : ArrowColumn → Type 0
IsServedColumn c = is_served_type c.data_type ≡ true

served_lists : (n : Bool) (limit : ℕ) (cs : List ArrowColumn) → Each IsServedColumn cs → Each IsServedColumn (map (beneath_list n limit) cs)
served_lists n limit [] h = tt
served_lists n limit (c ∷ cs) h = (h.0, served_lists n limit cs h.1)

served_structs : (n : Bool) (place : ℕ) (cs : List ArrowColumn) → Each IsServedColumn cs → Each IsServedColumn (map (beneath_struct n place) cs)
served_structs n place [] h = tt
served_structs n place (c ∷ cs) h = (h.0, served_structs n place cs h.1)

mutual
  served_of : (n : Bool) (t : TypeTree) → is_served_type t ≡ true → Each IsServedColumn (type_columns n t)
  served_of n (t_list item) h = served_lists n small_limit (field_columns item) (served_columns item h)
  served_of n (t_large_list item) h = served_lists n large_limit (field_columns item) (served_columns item h)
  served_of n (t_fixed_size_list item w) h = absurd (true≢false (sym h))
  served_of n (t_map entry s) h = served_lists n small_limit (field_columns entry) (served_columns entry h)
  served_of n (t_struct fs) h = served_from n zero fs h
  served_of n (t_union fs ids sparse) h = absurd (true≢false (sym h))
  served_of n (t_dictionary k t s) h = absurd (true≢false (sym h))
  served_of n (t_extension name inner m) h = served_of n inner h
  served_of n t h = (h, tt)

  served_columns : (f : FieldTree) → is_served_field f ≡ true → Each IsServedColumn (field_columns f)
  served_columns (field name t n m) h = served_of n t h

  served_from : (n : Bool) (place : ℕ) (fs : FieldTrees) → are_served_fields fs ≡ true → Each IsServedColumn (columns_from n place fs)
  served_from n place no_fields h = tt
  served_from n place (more_fields f fs) h =
      let a = and_parts _ _ h in
      Each-append IsServedColumn (map (beneath_struct n place) (field_columns f)) (columns_from n (suc place) fs) (served_structs n place (field_columns f) (served_columns f a.0)) (served_from n (suc place) fs a.1)

-- a leaf that is served is no dictionary's
own_values : (t : TypeTree) (p : Physical) → is_served_type t ≡ true → is_read t p ≡ true → is_read (value_type t) p ≡ true
own_values (t_dictionary k u s) p served h = absurd (true≢false (sym served))
own_values t p served h = h

leaves_read : (asked : Asked) (cs : List ArrowColumn) (ls : List Leaf) → AllZip (IsAlike asked) cs ls → Each IsServedColumn cs → AllZip IsLeafRead cs ls
leaves_read asked [] [] a w = tt
leaves_read asked [] (l ∷ ls) a w = absurd a
leaves_read asked (c ∷ cs) [] a w = absurd a
leaves_read asked (c ∷ cs) (l ∷ ls) a w = (own_values c.data_type l.physical w.0 (leaf_read (ends_nullable c.way) c.data_type l.physical a.0.row w.0 a.0.has_row a.0.stored), leaves_read asked cs ls a.1 w.1)

-- ---- nodes

mutual
  nodes_read : (t : TypeTree) → is_served_type t ≡ true → reads_nodes t ≡ true
  nodes_read (t_list item) h = field_read item h
  nodes_read (t_large_list item) h = field_read item h
  nodes_read (t_fixed_size_list item w) h = absurd (true≢false (sym h))
  nodes_read (t_map entry s) h = field_read entry h
  nodes_read (t_struct fs) h = fields_read fs h
  nodes_read (t_union fs ids sparse) h = absurd (true≢false (sym h))
  nodes_read (t_dictionary k t s) h = absurd (true≢false (sym h))
  nodes_read (t_extension name inner m) h = nodes_read inner h
  nodes_read t h = refl

  field_read : (f : FieldTree) → is_served_field f ≡ true → reads_nodes_of f ≡ true
  field_read (field name t n m) h = nodes_read t h

  fields_read : (fs : FieldTrees) → are_served_fields fs ≡ true → reads_nodes_of_all fs ≡ true
  fields_read no_fields h = refl
  fields_read (more_fields f fs) h =
      let a = and_parts (is_served_field f) (are_served_fields fs) h in ap (λ b. b && reads_nodes_of_all fs) (field_read f a.0) ∙ fields_read fs a.1

-- a field that is served and goes with its leaves is read
pub written_read : (f : FieldTree) (ls : List Leaf) → is_served_field f ≡ true → AreAlike f ls → IsRead f ls
written_read f ls s a = record { nodes = field_read f s; leaves = leaves_read (asked_by f) (field_columns f) ls a.are (served_columns f s) }
