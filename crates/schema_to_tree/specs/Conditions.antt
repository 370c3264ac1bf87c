-- Why a field has no tree.
use Rattle.std.specs.Prelude.{◌≡◌, ℕ, ◌^◌, ◌<◌, ◌≤◌, ◌⊎◌, Bool, true, false, not, ◌&&◌, ◌||◌, leb, nat_eq}
use Rattle.columns_core.specs.Tree.{TypeTree, t_float16, t_time32, t_time64, t_fixed_size_binary, t_list, t_fixed_size_list, t_large_list, t_struct, t_union, t_map, t_dictionary, t_decimal, t_decimal256, t_extension, FieldTree, field, FieldTrees, no_fields, more_fields}
use Rattle.columns_core.specs.declared.types.TimeUnit.TheVariants.{Second, Millisecond, Microsecond, Nanosecond}
use Rattle.columns_core.specs.Measures.{field_nesting, fields_nesting}
use Rattle.columns_base.specs.declared.error.Error.{Error}
use Rattle.columns_base.specs.declared.error.Error.TheVariants.{NotYetImplemented, InvalidArgumentError, Memory}
use Rattle.columns_base.specs.declared.error.N.TheVariants.{N5, N7}
use Rattle.columns_base.specs.declared.error.A.TheVariants.{A4, A5, A6}
use Rattle.pq_tree.specs.Tree.{nesting, schema_nesting}
use Rattle.schema_to_tree.specs.Table.{tree_of, schema_of}

-- ---- types that are refused

abbrev pub is_empty_struct : TypeTree → Bool
is_empty_struct (t_struct no_fields) = true
is_empty_struct t = false

-- a precision that is not from 1 to 38, or a scale above it
abbrev pub is_decimal : ℕ → ℕ → Bool
is_decimal p s = leb 1 p && leb p 38 && leb s p

abbrev pub is_bad_decimal : TypeTree → Bool
is_bad_decimal (t_decimal p s) = not (is_decimal p s)
is_bad_decimal t = false

-- a 64-bit time counts microseconds or nanoseconds
abbrev pub is_bad_time64 : TypeTree → Bool
is_bad_time64 (t_time64 Second) = true
is_bad_time64 (t_time64 Millisecond) = true
is_bad_time64 t = false

-- a type that is not written
abbrev pub is_unwritten : TypeTree → Bool
is_unwritten (t_time32 Microsecond) = true
is_unwritten (t_time32 Nanosecond) = true
is_unwritten t_float16 = true
is_unwritten (t_decimal256 p s) = true
is_unwritten (t_union fs ids sparse) = true
is_unwritten (t_fixed_size_binary n) = nat_eq n 0 || leb (2 ^ 31) n
is_unwritten t = false

-- ---- where they stand

abbrev mutual
  -- some type in it, itself included, is so
  pub some_type : (TypeTree → Bool) → TypeTree → Bool
  some_type p (t_list f) = p (t_list f) || some_field p f
  some_type p (t_large_list f) = p (t_large_list f) || some_field p f
  some_type p (t_fixed_size_list f n) = p (t_fixed_size_list f n) || some_field p f
  some_type p (t_map f sorted) = p (t_map f sorted) || some_field p f
  some_type p (t_struct fs) = p (t_struct fs) || some_fields p fs
  some_type p (t_union fs ids sparse) = p (t_union fs ids sparse) || some_fields p fs
  some_type p (t_dictionary key t sorted) = p (t_dictionary key t sorted) || some_type p t
  some_type p (t_extension name t m) = p (t_extension name t m) || some_type p t
  some_type p t = p t

  pub some_field : (TypeTree → Bool) → FieldTree → Bool
  some_field p (field name t nullable m) = some_type p t

  pub some_fields : (TypeTree → Bool) → FieldTrees → Bool
  some_fields p no_fields = false
  some_fields p (more_fields f fs) = some_field p f || some_fields p fs

-- ---- a field

-- a struct without fields
abbrev pub HasEmptyStruct : FieldTree → Type 0
HasEmptyStruct f = some_field is_empty_struct f ≡ true

abbrev pub HasBadDecimal : FieldTree → Type 0
HasBadDecimal f = some_field is_bad_decimal f ≡ true

abbrev pub HasBadTime64 : FieldTree → Type 0
HasBadTime64 f = some_field is_bad_time64 f ≡ true

abbrev pub HasUnwritten : FieldTree → Type 0
HasUnwritten f = some_field is_unwritten f ≡ true

-- the most that types and trees nest
abbrev pub most : ℕ
most = 128

-- the field's type or its tree nests deeper
abbrev pub IsTooDeep : FieldTree → Type 0
IsTooDeep f = (most < field_nesting f) ⊎ (most < nesting (tree_of f))

-- none of it
pub record IsWritten (f : FieldTree) : Type 0 where
  pub structs : some_field is_empty_struct f ≡ false
  pub decimals : some_field is_bad_decimal f ≡ false
  pub times : some_field is_bad_time64 f ≡ false
  pub types : some_field is_unwritten f ≡ false
  pub type_nesting : field_nesting f ≤ most
  pub tree_nesting : nesting (tree_of f) ≤ most

-- why a field is refused. A 64-bit time goes before a type that is not written
abbrev pub RefusesField : FieldTree → Error → Type 0
RefusesField f (InvalidArgumentError A4) = HasEmptyStruct f
RefusesField f (InvalidArgumentError A5) = HasBadDecimal f
RefusesField f (InvalidArgumentError A6) = HasBadTime64 f
RefusesField f (NotYetImplemented N5) = HasUnwritten f × (some_field is_bad_time64 f ≡ false)
RefusesField f (NotYetImplemented N7) = IsTooDeep f
RefusesField f Memory = Unit {0}
RefusesField f e = ⊥

-- ---- a schema: some field has it. Its tree is counted from the root

pub record AreWritten (fs : FieldTrees) : Type 0 where
  pub structs : some_fields is_empty_struct fs ≡ false
  pub decimals : some_fields is_bad_decimal fs ≡ false
  pub times : some_fields is_bad_time64 fs ≡ false
  pub types : some_fields is_unwritten fs ≡ false
  pub type_nesting : fields_nesting fs ≤ most
  pub tree_nesting : schema_nesting (schema_of fs) ≤ most

abbrev pub RefusesSchema : FieldTrees → Error → Type 0
RefusesSchema fs (InvalidArgumentError A4) = some_fields is_empty_struct fs ≡ true
RefusesSchema fs (InvalidArgumentError A5) = some_fields is_bad_decimal fs ≡ true
RefusesSchema fs (InvalidArgumentError A6) = some_fields is_bad_time64 fs ≡ true
RefusesSchema fs (NotYetImplemented N5) = (some_fields is_unwritten fs ≡ true) × (some_fields is_bad_time64 fs ≡ false)
RefusesSchema fs (NotYetImplemented N7) = (most < fields_nesting fs) ⊎ (most < schema_nesting (schema_of fs))
RefusesSchema fs Memory = Unit {0}
RefusesSchema fs e = ⊥
