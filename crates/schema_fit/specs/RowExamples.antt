-- The page table, line by line: what each type is stored as and where, with a near miss for each (Parquet format, "Types" and LogicalTypes; Arrow columnar format, "Data Types").
use Rattle.std.specs.Prelude.{◌≡◌, List, [], ◌∷◌, map, Bool, true, false, None}
use Rattle.columns_core.specs.declared.types.TimeUnit.TheVariants.{Second, Millisecond, Microsecond, Nanosecond}
use Rattle.columns_core.specs.declared.types.IntervalUnit.TheVariants.{YearMonth, DayTime, MonthDayNano}
use Rattle.columns_core.specs.declared.types.IntegerType.TheVariants.{Int8}
use Rattle.columns_core.specs.Tree.{TypeTree, t_null, t_boolean, t_int8, t_int16, t_int32, t_int64, t_uint8, t_uint16, t_uint32, t_uint64, t_float16, t_float32, t_float64, t_timestamp, t_date32, t_date64, t_time32, t_time64, t_duration, t_interval, t_binary, t_fixed_size_binary, t_large_binary, t_utf8, t_large_utf8, t_struct, no_fields, t_dictionary, t_decimal, t_decimal256}
use Rattle.pq_tree.specs.Physical.{Physical, boolean, int32, int64, int96, float, double, byte_array, fixed}
use Rattle.pq_tree.specs.Types.{optional}
use Rattle.schema_fit.specs.declared.page_table.Asked.{Asked}
use Rattle.schema_fit.specs.declared.page_table.Asked.TheVariants as A
use Rattle.schema_fit.specs.PageTable.{go_together}
use Rattle.schema_fit.specs.Skeleton.{StoredLeaf, ArrowLeaf}

-- a leaf without annotations
abbrev pub stored : Physical → StoredLeaf
stored physical = record { info = record { name = []; repetition = optional; id = None; converted = None; logical = None }; physical = physical }

-- a leaf that may be null
abbrev pub arrow : TypeTree → ArrowLeaf
arrow t = record { data_type = t; is_nullable = true }

-- whether values of the type are stored so beneath lists, maps and structs
abbrev pub is_nested : TypeTree → Physical → Bool
is_nested t physical = go_together A.Nested (arrow t) (stored physical)

-- whether they are in a column that is no more than the leaf
abbrev pub is_flat : TypeTree → Physical → Bool
is_flat t physical = go_together A.Flat (arrow t) (stored physical)

-- only there
abbrev pub only_flat : TypeTree → Physical → List Bool
only_flat t physical = is_flat t physical ∷ is_nested t physical ∷ []

-- the physical types, in the standard's order, as which the values are stored in a flat column
abbrev pub flat_as : TypeTree → List Bool
flat_as t = map (is_flat t) (boolean ∷ int32 ∷ int64 ∷ int96 ∷ float ∷ double ∷ byte_array ∷ fixed 12 ∷ [])

abbrev pub as_int32 : List Bool
as_int32 = false ∷ true ∷ false ∷ false ∷ false ∷ false ∷ false ∷ false ∷ []

abbrev pub as_int64 : List Bool
as_int64 = false ∷ false ∷ true ∷ false ∷ false ∷ false ∷ false ∷ false ∷ []

abbrev pub as_bytes : List Bool
as_bytes = false ∷ false ∷ false ∷ false ∷ false ∷ false ∷ true ∷ false ∷ []

abbrev pub as_fixed : List Bool
as_fixed = false ∷ false ∷ false ∷ false ∷ false ∷ false ∷ false ∷ true ∷ []

abbrev pub as_none : List Bool
as_none = false ∷ false ∷ false ∷ false ∷ false ∷ false ∷ false ∷ false ∷ []

abbrev pub dictionary : TypeTree → TypeTree
dictionary t = t_dictionary Int8 t false

-- ---- values

pub record AreValueRows : Type 0 where
  pub null : flat_as t_null ≡ as_int32
  pub nested_null : is_nested t_null int32 ≡ true
  pub required_null : go_together A.Flat (record { data_type = t_null; is_nullable = false }) (stored int32) ≡ false
  pub truth : flat_as t_boolean ≡ true ∷ false ∷ false ∷ false ∷ false ∷ false ∷ false ∷ false ∷ []
  pub nested_truth : is_nested t_boolean boolean ≡ true
  pub small : map flat_as (t_int8 ∷ t_int16 ∷ t_uint8 ∷ t_uint16 ∷ []) ≡ as_int32 ∷ as_int32 ∷ as_int32 ∷ as_int32 ∷ []
  pub nested_small : map (λ t. is_nested t int32) (t_int8 ∷ t_int16 ∷ t_uint8 ∷ t_uint16 ∷ []) ≡ true ∷ true ∷ true ∷ true ∷ []
  pub numbers_of_32_bits : map flat_as (t_int32 ∷ t_date32 ∷ t_time32 Second ∷ t_time32 Millisecond ∷ []) ≡ as_int32 ∷ as_int32 ∷ as_int32 ∷ as_int32 ∷ []
  pub nested_of_32_bits : map (λ t. is_nested t int32) (t_int32 ∷ t_date32 ∷ t_time32 Second ∷ t_time32 Millisecond ∷ []) ≡ true ∷ true ∷ true ∷ true ∷ []
  pub finer_time32 : map flat_as (t_time32 Microsecond ∷ t_time32 Nanosecond ∷ []) ≡ as_none ∷ as_none ∷ []
  pub uint32 : flat_as t_uint32 ≡ false ∷ true ∷ true ∷ false ∷ false ∷ false ∷ false ∷ false ∷ []
  pub nested_uint32 : map (is_nested t_uint32) (int32 ∷ int64 ∷ []) ≡ true ∷ true ∷ []
  pub numbers_of_64_bits : map flat_as (t_int64 ∷ t_date64 ∷ t_duration Second ∷ t_timestamp Second None ∷ t_time64 Microsecond ∷ t_time64 Nanosecond ∷ []) ≡
      as_int64 ∷ as_int64 ∷ as_int64 ∷ as_int64 ∷ as_int64 ∷ as_int64 ∷ []
  pub nested_of_64_bits : map (λ t. is_nested t int64) (t_int64 ∷ t_date64 ∷ t_duration Second ∷ t_timestamp Second None ∷ t_time64 Microsecond ∷ t_time64 Nanosecond ∷ []) ≡
      true ∷ true ∷ true ∷ true ∷ true ∷ true ∷ []
  pub coarser_time64 : map flat_as (t_time64 Second ∷ t_time64 Millisecond ∷ []) ≡ as_none ∷ as_none ∷ []
  pub uint64 : flat_as t_uint64 ≡ as_int64
  pub nested_uint64 : is_nested t_uint64 int64 ≡ true
  pub texts : map flat_as (t_utf8 ∷ t_large_utf8 ∷ t_binary ∷ t_large_binary ∷ []) ≡ as_bytes ∷ as_bytes ∷ as_bytes ∷ as_bytes ∷ []
  pub nested_texts : map (λ t. is_nested t byte_array) (t_utf8 ∷ t_large_utf8 ∷ t_binary ∷ t_large_binary ∷ []) ≡ true ∷ true ∷ true ∷ true ∷ []
  pub fixed_bytes : flat_as (t_fixed_size_binary 12) ≡ as_fixed
  pub nested_fixed_bytes : is_nested (t_fixed_size_binary 12) (fixed 12) ≡ false
  pub other_length : is_flat (t_fixed_size_binary 12) (fixed 13) ≡ false
  pub longest : is_flat (t_fixed_size_binary 2147483647) (fixed 2147483647) ≡ true
  pub no_length : is_flat (t_fixed_size_binary 0) (fixed 0) ≡ false
  pub too_long : is_flat (t_fixed_size_binary 2147483648) (fixed 2147483648) ≡ false
  pub decimal : flat_as (t_decimal 9 2) ≡ false ∷ true ∷ true ∷ false ∷ false ∷ false ∷ false ∷ true ∷ []
  pub nested_decimal : map (is_nested (t_decimal 9 2)) (int32 ∷ int64 ∷ fixed 12 ∷ []) ≡ false ∷ false ∷ false ∷ []
  pub decimal_lengths : map (λ n. is_flat (t_decimal 38 2) (fixed n)) (0 ∷ 1 ∷ 16 ∷ 17 ∷ []) ≡ false ∷ true ∷ true ∷ false ∷ []
  pub intervals : map flat_as (t_interval YearMonth ∷ t_interval DayTime ∷ []) ≡ as_fixed ∷ as_fixed ∷ []
  pub nested_intervals : map (λ t. is_nested t (fixed 12)) (t_interval YearMonth ∷ t_interval DayTime ∷ []) ≡ false ∷ false ∷ []
  pub interval_length : is_flat (t_interval YearMonth) (fixed 11) ≡ false
  -- the types without a line
  pub others : map flat_as (t_float16 ∷ t_float32 ∷ t_float64 ∷ t_interval MonthDayNano ∷ t_decimal256 9 2 ∷ t_struct no_fields ∷ []) ≡
      as_none ∷ as_none ∷ as_none ∷ as_none ∷ as_none ∷ as_none ∷ []

-- ---- entries of a dictionary

pub record AreEntryRows : Type 0 where
  pub numbers_of_32_bits : map (λ t. is_nested (dictionary t) int32) (t_int8 ∷ t_int16 ∷ t_int32 ∷ t_uint8 ∷ t_uint16 ∷ t_uint32 ∷ t_date32 ∷ t_time32 Second ∷ []) ≡
      true ∷ true ∷ true ∷ true ∷ true ∷ true ∷ true ∷ true ∷ []
  pub numbers_of_64_bits : map (λ t. is_nested (dictionary t) int64) (t_int64 ∷ t_uint32 ∷ t_date64 ∷ t_time64 Nanosecond ∷ t_duration Second ∷ []) ≡ true ∷ true ∷ true ∷ true ∷ true ∷ []
  pub texts : map (λ t. is_nested (dictionary t) byte_array) (t_utf8 ∷ t_large_utf8 ∷ t_binary ∷ t_large_binary ∷ []) ≡ true ∷ true ∷ true ∷ true ∷ []
  -- fixed byte strings are stored nested as entries, and not as values
  pub fixed_bytes : map (λ t. is_nested t (fixed 12)) (dictionary (t_fixed_size_binary 12) ∷ t_fixed_size_binary 12 ∷ []) ≡ true ∷ false ∷ []
  pub flat_fixed_bytes : flat_as (dictionary (t_fixed_size_binary 12)) ≡ as_fixed
  pub fixed_lengths : map (λ n. is_nested (dictionary (t_fixed_size_binary n)) (fixed n)) (0 ∷ 1 ∷ 2147483647 ∷ 2147483648 ∷ []) ≡ false ∷ true ∷ true ∷ false ∷ []
  pub other_length : is_nested (dictionary (t_fixed_size_binary 12)) (fixed 13) ≡ false
  pub uint64 : only_flat (dictionary t_uint64) int64 ≡ true ∷ false ∷ []
  pub timestamp : only_flat (dictionary (t_timestamp Second None)) int64 ≡ true ∷ false ∷ []
  pub not_wide : map (λ t. is_flat (dictionary t) int64) (t_int32 ∷ t_date32 ∷ []) ≡ false ∷ false ∷ []
  pub others : map (λ t. flat_as (dictionary t)) (t_null ∷ t_boolean ∷ t_float64 ∷ t_time32 Nanosecond ∷ t_time64 Second ∷ t_interval DayTime ∷ t_decimal 9 2 ∷ dictionary t_int8 ∷ []) ≡
      as_none ∷ as_none ∷ as_none ∷ as_none ∷ as_none ∷ as_none ∷ as_none ∷ as_none ∷ []

pub record IsPageTable : Type 0 where
  pub values : AreValueRows
  pub entries : AreEntryRows
