-- What holds of every schema in memory, and which its tree alone does not tell: numbers lie in the ranges
-- of their types, texts are UTF-8, and the keys of metadata ascend.
use Rattle.std.specs.Prelude.{ℕ, ℤ, ◌^◌, ◌<◌, List, IfSome, IsUtf8, FitsSigned, slice_index}
use Rattle.std.specs.List.{AllByRecursion}
use Rattle.std.specs.Int.{w32}
use Rattle.columns_core.specs.Meta.{Meta, KeysAscend}
use Rattle.columns_core.specs.Tree.{TypeTree, t_timestamp, t_fixed_size_binary, t_list, t_fixed_size_list, t_large_list, t_struct, t_union, t_map, t_dictionary, t_decimal, t_decimal256, t_extension, FieldTree, field, FieldTrees, no_fields, more_fields}
use Rattle.columns_core.specs.View.{SchemaTree}

pub record IsMetadata (m : Meta) : Type 0 where
  pub texts : AllByRecursion (λ e. IsUtf8 e.0 × IsUtf8 e.1) m
  pub ascends : KeysAscend m

-- a size
abbrev pub IsSize : ℕ → Type 0
IsSize n = n < 2 ^ 64

abbrev pub AreIds : List ℤ → Type 0
AreIds ids = AllByRecursion (FitsSigned w32) ids

abbrev mutual
  pub HasRanges : TypeTree → Type 0
  HasRanges (t_timestamp unit zone) = IfSome zone IsUtf8
  HasRanges (t_fixed_size_binary size) = IsSize size
  HasRanges (t_list item) = FieldHasRanges item
  HasRanges (t_fixed_size_list item size) = FieldHasRanges item × IsSize size
  HasRanges (t_large_list item) = FieldHasRanges item
  HasRanges (t_struct fields) = FieldsHaveRanges fields
  HasRanges (t_union fields ids sparse) = FieldsHaveRanges fields × IfSome ids AreIds
  HasRanges (t_map entry sorted) = FieldHasRanges entry
  HasRanges (t_dictionary key value sorted) = HasRanges value
  HasRanges (t_decimal precision scale) = IsSize precision × IsSize scale
  HasRanges (t_decimal256 precision scale) = IsSize precision × IsSize scale
  HasRanges (t_extension name inner metadata) = IsUtf8 name × HasRanges inner × IfSome metadata IsUtf8
  HasRanges _ = Unit {0}

  pub FieldHasRanges : FieldTree → Type 0
  FieldHasRanges (field name type nullable metadata) = IsUtf8 name × HasRanges type × IsMetadata metadata

  pub FieldsHaveRanges : FieldTrees → Type 0
  FieldsHaveRanges no_fields = Unit {0}
  FieldsHaveRanges (more_fields f fs) = FieldHasRanges f × FieldsHaveRanges fs

-- each is a byte
abbrev pub IsBytes : List ℕ → Type 0
IsBytes bytes = (i : ℕ) → slice_index bytes i < 256

-- how deep the types of a schema may nest, and how many bytes it may have
abbrev pub max_nesting : ℕ
max_nesting = 128

abbrev pub max_length : ℕ
max_length = 2147483647

pub record IsSchema (s : SchemaTree) : Type 0 where
  pub fields : FieldsHaveRanges s.fields
  pub metadata : IsMetadata s.metadata
