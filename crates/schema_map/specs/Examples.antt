-- Worked fields that fit their trees, and fields that are written and do not.
use Rattle.std.specs.Prelude.{◌≡◌, ℕ, codes, List, [], true, false, None}
use Rattle.columns_core.specs.declared.types.IntegerType.TheVariants.{Int8}
use Rattle.columns_core.specs.Tree.{TypeTree, t_int32, t_int64, t_uint64, t_float64, t_utf8, t_list, t_fixed_size_list, t_struct, t_map, t_dictionary, t_decimal, t_extension, FieldTree, field, FieldTrees, no_fields, more_fields}
use Rattle.schema_fit.specs.Fits.{fits_to}
use Rattle.schema_map.specs.Rows.{HasRows}
use Rattle.schema_to_tree.specs.Conditions.{IsWritten}
use Rattle.schema_to_tree.specs.Table.{tree_of}

abbrev pub may : List ℕ → TypeTree → FieldTree
may name t = field name t true []

abbrev pub must : List ℕ → TypeTree → FieldTree
must name t = field name t false []

abbrev pub two : FieldTree → FieldTree → FieldTrees
two f g = more_fields f (more_fields g no_fields)

-- an optional struct of a required number and an optional list of optional values
abbrev pub points : TypeTree → FieldTree
points y = may (codes "p") (t_struct (two (must (codes "x") t_int64) (may (codes "ys") (t_list (may (codes "item") y)))))

-- a required map from texts to optional numbers, under a name of its own
abbrev pub counts : FieldTree
counts = must (codes "m") (t_extension (codes "e") (t_map (must (codes "entries") (t_struct (two (must (codes "k") t_utf8) (may (codes "v") t_int32)))) false) None)

abbrev pub named_numbers : FieldTree
named_numbers = may (codes "d") (t_dictionary Int8 (t_extension (codes "e") t_uint64 None) false)

abbrev pub price : FieldTree
price = may (codes "a") (t_decimal 19 2)

-- a decimal beneath a struct
abbrev pub prices : FieldTree
prices = must (codes "s") (t_struct (more_fields price no_fields))

-- it has rows and fits
pub record Fits (f : FieldTree) : Type 0 where
  pub rows : HasRows f
  pub fits : fits_to f (tree_of f) ≡ true

-- it is written, and its tree does not fit it
pub record Misses (f : FieldTree) : Type 0 where
  pub written : IsWritten f
  pub misses : fits_to f (tree_of f) ≡ false

pub record AreWorked : Type 0 where
  pub nested : Fits (points t_int32)
  pub map : Fits counts
  pub dictionary : Fits named_numbers
  pub decimal : Fits price
  -- no page has floats
  pub floats : Misses (points t_float64)
  -- a page has decimals of flat columns alone
  pub nested_decimal : Misses prices
  -- a list of a fixed size is a leaf of the field, and a group of its tree
  pub fixed_size_list : Misses (may (codes "l") (t_fixed_size_list (may (codes "item") t_int32) 2))
