-- Worked examples of a schema's plain bytes.
use Rattle.std.specs.Prelude.{◌≡◌, negsuc, [], ◌∷◌, true, false, Some, None}
use Rattle.columns_core.specs.Tree.{t_null, t_int32, t_timestamp, t_time64, t_duration, t_interval, t_fixed_size_binary, t_union, t_map, t_dictionary, t_utf8, t_decimal, field, no_fields, more_fields}
use Rattle.columns_core.specs.View.{SchemaTree}
use Rattle.columns_core.specs.declared.types.TimeUnit.TheVariants.{Second, Microsecond, Nanosecond}
use Rattle.columns_core.specs.declared.types.IntervalUnit.TheVariants.{DayTime}
use Rattle.columns_core.specs.declared.types.IntegerType.TheVariants as keys
use Rattle.schema_codec.specs.Ascending.{is_ascending}
use Rattle.schema_codec.specs.Reading.{truth_at, unit_at, interval_unit_at, key_type_at, tag_at, type_at}
use Rattle.schema_codec.specs.Spelling.{type_bytes, plain_bytes}

-- one nullable field `a` of 32-bit numbers
abbrev pub numbers_a : SchemaTree
numbers_a = record { fields = more_fields (field (97 ∷ []) t_int32 true []) no_fields; metadata = [] }

pub record AreWorked : Type 0 where
  pub schema : plain_bytes numbers_a ≡ 1 ∷ 0 ∷ 0 ∷ 0 ∷ 1 ∷ 0 ∷ 0 ∷ 0 ∷ 97 ∷ 1 ∷ 4 ∷ 0 ∷ 0 ∷ 0 ∷ 0 ∷ 0 ∷ 0 ∷ 0 ∷ 0 ∷ []
  pub zone : type_bytes (t_timestamp Nanosecond (Some (85 ∷ 84 ∷ 67 ∷ []))) ≡ 13 ∷ 3 ∷ 1 ∷ 3 ∷ 0 ∷ 0 ∷ 0 ∷ 85 ∷ 84 ∷ 67 ∷ []
  pub size : type_bytes (t_fixed_size_binary 258) ≡ 21 ∷ 2 ∷ 1 ∷ 0 ∷ 0 ∷ 0 ∷ 0 ∷ 0 ∷ 0 ∷ []
  pub ids : type_bytes (t_union no_fields (Some (negsuc 1 ∷ [])) false) ≡ 29 ∷ 0 ∷ 0 ∷ 0 ∷ 0 ∷ 1 ∷ 1 ∷ 0 ∷ 0 ∷ 0 ∷ 254 ∷ 255 ∷ 255 ∷ 255 ∷ 0 ∷ []
  pub dictionary : type_bytes (t_dictionary keys.UInt64 t_utf8 true) ≡ 31 ∷ 7 ∷ 23 ∷ 1 ∷ []
  pub units : (type_bytes (t_time64 Microsecond) ≡ 17 ∷ 2 ∷ []) × (type_bytes (t_duration Second) ≡ 18 ∷ 0 ∷ [])
  pub interval : type_bytes (t_interval DayTime) ≡ 19 ∷ 1 ∷ []
  -- the precision goes before the scale
  pub decimal : type_bytes (t_decimal 38 2) ≡ 32 ∷ 38 ∷ 0 ∷ 0 ∷ 0 ∷ 0 ∷ 0 ∷ 0 ∷ 0 ∷ 2 ∷ 0 ∷ 0 ∷ 0 ∷ 0 ∷ 0 ∷ 0 ∷ 0 ∷ []
  -- a field with metadata, and behind it whether the keys are sorted
  pub map : type_bytes (t_map (field [] t_int32 false ((107 ∷ [], 118 ∷ []) ∷ [])) true) ≡ 30 ∷ 0 ∷ 0 ∷ 0 ∷ 0 ∷ 0 ∷ 4 ∷ 1 ∷ 0 ∷ 0 ∷ 0 ∷ 1 ∷ 0 ∷ 0 ∷ 0 ∷ 107 ∷ 1 ∷ 0 ∷ 0 ∷ 0 ∷ 118 ∷ 1 ∷ []
  pub no_truth : truth_at (2 ∷ []) ≡ None
  pub no_unit : unit_at (4 ∷ []) ≡ None
  pub no_interval : interval_unit_at (3 ∷ []) ≡ None
  pub no_key_type : key_type_at (8 ∷ []) ≡ None
  pub no_tag : tag_at (35 ∷ []) ≡ None
  pub too_deep : type_at 0 (0 ∷ []) ≡ None
  pub not_too_deep : type_at 1 (0 ∷ []) ≡ Some (t_null, [])
  pub ascending : is_ascending ((97 ∷ [], []) ∷ (97 ∷ 98 ∷ [], []) ∷ []) ≡ true
  pub descending : is_ascending ((98 ∷ [], []) ∷ (97 ∷ [], []) ∷ []) ≡ false
  pub twice : is_ascending ((97 ∷ [], []) ∷ (97 ∷ [], []) ∷ []) ≡ false
