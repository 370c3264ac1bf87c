-- The columns of an Arrow schema: a leaf each, with the way to it and its type (Dremel paper, section 4.2; Parquet format, "Nested Encoding").
use Rattle.std.specs.Prelude.{ℕ, zero, suc, ◌-◌, ◌^◌, Bool, true, false, List, [], ◌∷◌, ◌++◌, map}
use Rattle.shredding.specs.Shape.{Way, at_leaf, in_list, in_struct}
use Rattle.columns_core.specs.Tree.{TypeTree, t_list, t_fixed_size_list, t_large_list, t_struct, t_map, t_dictionary, t_extension, FieldTree, field, FieldTrees, no_fields, more_fields}

pub record ArrowColumn : Type 0 where
  pub way : Way
  -- how many items the offsets of each list on the way count, the outermost first (Arrow columnar format, "Variable-size List Layout")
  pub limits : List ℕ
  -- the leaf's type, without extensions
  pub data_type : TypeTree

-- offsets of 32 and of 64 bits, which are not negative
abbrev pub small_limit : ℕ
small_limit = 2 ^ 31 - 1

abbrev pub large_limit : ℕ
large_limit = 2 ^ 63 - 1

abbrev pub leaf_column : Bool → TypeTree → List ArrowColumn
leaf_column is_nullable t = record { way = at_leaf is_nullable; limits = []; data_type = t } ∷ []

abbrev pub beneath_list : Bool → ℕ → ArrowColumn → ArrowColumn
beneath_list is_nullable limit c = record { way = in_list is_nullable c.way; limits = limit ∷ c.limits; data_type = c.data_type }

abbrev pub beneath_struct : Bool → ℕ → ArrowColumn → ArrowColumn
beneath_struct is_nullable place c = record { way = in_struct is_nullable place c.way; limits = c.limits; data_type = c.data_type }

-- in order
abbrev mutual
  pub type_columns : Bool → TypeTree → List ArrowColumn
  type_columns is_nullable (t_list item) = map (beneath_list is_nullable small_limit) (field_columns item)
  type_columns is_nullable (t_large_list item) = map (beneath_list is_nullable large_limit) (field_columns item)
  -- it has no offsets, and its items are counted as those of a large list
  type_columns is_nullable (t_fixed_size_list item n) = map (beneath_list is_nullable large_limit) (field_columns item)
  type_columns is_nullable (t_map entry is_sorted) = map (beneath_list is_nullable small_limit) (field_columns entry)
  type_columns is_nullable (t_struct fields) = columns_from is_nullable zero fields
  type_columns is_nullable (t_extension name inner metadata) = type_columns is_nullable inner
  type_columns is_nullable t = leaf_column is_nullable t

  pub field_columns : FieldTree → List ArrowColumn
  field_columns (field name t is_nullable metadata) = type_columns is_nullable t

  -- those of a struct's children, of which the first stands at this place
  pub columns_from : Bool → ℕ → FieldTrees → List ArrowColumn
  columns_from is_nullable place no_fields = []
  columns_from is_nullable place (more_fields f fs) = map (beneath_struct is_nullable place) (field_columns f) ++ columns_from is_nullable (suc place) fs

-- Rows of a schema are the slots of a required struct of its fields.
abbrev pub schema_columns : FieldTrees → List ArrowColumn
schema_columns fs = columns_from false zero fs

abbrev pub is_dictionary : TypeTree → Bool
is_dictionary (t_dictionary key t is_sorted) = true
is_dictionary t = false

-- nothing is inside a value of the type: it is no list, struct, map or dictionary
abbrev pub has_no_parts : TypeTree → Bool
has_no_parts (t_list item) = false
has_no_parts (t_large_list item) = false
has_no_parts (t_fixed_size_list item n) = false
has_no_parts (t_map entry is_sorted) = false
has_no_parts (t_struct fs) = false
has_no_parts (t_dictionary key t is_sorted) = false
has_no_parts t = true

-- of a field whose own type is a leaf's
abbrev pub is_alone : Way → Bool
is_alone (at_leaf n) = true
is_alone (in_list n w) = false
is_alone (in_struct n i w) = false

-- the same of a column of the schema, whose way begins with the schema's own struct
abbrev pub is_flat : ArrowColumn → Bool
is_flat c = of c.way
  where
    of : Way → Bool
    of (at_leaf n) = true
    of (in_list n w) = false
    of (in_struct n i w) = is_alone w

-- whether the leaf itself may be null
abbrev pub ends_nullable : Way → Bool
ends_nullable (at_leaf n) = n
ends_nullable (in_list n w) = ends_nullable w
ends_nullable (in_struct n i w) = ends_nullable w
