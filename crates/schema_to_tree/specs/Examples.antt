-- Trees, lengths, leaves and encodings worked by hand from the standards, and fields that have no tree.
use Rattle.std.specs.Prelude.{◌≡◌, ℕ, List, [], ◌∷◌, codes, true, false, Option, Some, None}
use Rattle.columns_core.specs.Tree.{TypeTree, t_null, t_boolean, t_int8, t_int32, t_int64, t_uint64, t_timestamp, t_time32, t_time64, t_fixed_size_binary, t_large_utf8, t_utf8, t_list, t_struct, t_union, t_map, t_dictionary, t_decimal, t_extension, FieldTree, field, FieldTrees, no_fields, more_fields}
use Rattle.columns_core.specs.declared.types.TimeUnit.TheVariants.{Second, Millisecond, Microsecond, Nanosecond}
use Rattle.columns_core.specs.declared.types.IntegerType.TheVariants.{Int8}
use Rattle.pq_tree.specs.declared.types.Encoding.TheVariants.{Plain, Rle, RleDictionary, DeltaBinaryPacked, DeltaLengthByteArray}
use Rattle.pq_tree.specs.Physical.{int32, int64, byte_array, fixed}
use Rattle.pq_tree.specs.Types.{Repetition, required, optional, repeated, millis, micros, Converted, Logical, Info}
use Rattle.pq_tree.specs.Tree.{leaf, group, no_trees, tree, schema_nesting}
use Rattle.schema_to_tree.specs.Length.{IsDecimalLength}
use Rattle.schema_to_tree.specs.Table.{stored_as, tree_of, schema_of}
use Rattle.schema_to_tree.specs.Conditions.{HasEmptyStruct, HasBadDecimal, HasBadTime64, HasUnwritten, IsWritten}
use Rattle.schema_to_tree.specs.Leaves.{leaf_types, meets, is_union, is_odd_map}
use Rattle.schema_to_tree.specs.Encodes.{encodes}

abbrev info : List ℕ → Repetition → Option Converted → Option Logical → Info
info name r c l = record { name = name; repetition = r; id = None; converted = c; logical = l }

abbrev nullable : List ℕ → TypeTree → FieldTree
nullable name t = field name t true []

abbrev required_field : List ℕ → TypeTree → FieldTree
required_field name t = field name t false []

abbrev two : FieldTree → FieldTree → FieldTrees
two f g = more_fields f (more_fields g no_fields)

-- an optional struct of a required number and an optional list of optional numbers
abbrev points : FieldTree
points = nullable (codes "p") (t_struct (two (required_field (codes "x") t_int64) (nullable (codes "ys") (t_list (nullable (codes "item") t_int32)))))

-- a required map from texts to decimals
abbrev prices : FieldTree
prices = required_field (codes "m") (t_map (required_field (codes "entries") (t_struct (two (required_field (codes "k") t_utf8) (nullable (codes "v") (t_decimal 19 2))))) false)

pub record TreesAreWorked : Type 0 where
  pub struct_of_list :
      tree_of points
      ≡ group (info (codes "p") optional None None)
      (tree (leaf (info (codes "x") required None None) int64)
      (tree
      (group (info (codes "ys") optional (Some Converted.list) (Some Logical.list))
      (tree (group (info (codes "list") repeated None None) (tree (leaf (info (codes "item") optional None None) int32) no_trees)) no_trees)) no_trees))
  pub map_of_decimals :
      tree_of prices
      ≡ group (info (codes "m") required (Some Converted.map) (Some Logical.map))
      (tree
      (group (info (codes "map") repeated None None)
      (tree
      (group (info (codes "entries") required None None)
      (tree (leaf (info (codes "k") required (Some Converted.utf8) (Some Logical.string)) byte_array)
      (tree (leaf (info (codes "v") optional (Some (Converted.decimal 19 2)) (Some (Logical.decimal 19 2))) (fixed 9)) no_trees))) no_trees)) no_trees)
  -- a dictionary goes by its value type, an extension by its inner type
  pub dictionary : tree_of (nullable (codes "d") (t_dictionary Int8 t_large_utf8 false)) ≡ leaf (info (codes "d") optional (Some Converted.utf8) (Some Logical.string)) byte_array
  pub extension : tree_of (nullable (codes "e") (t_extension (codes "x") t_int8 None)) ≡ leaf (info (codes "e") optional (Some (Converted.signed 8)) (Some (Logical.integer 8 true))) int32
  pub root : schema_nesting (schema_of (more_fields points no_fields)) ≡ 5

pub record LeavesAreStored : Type 0 where
  pub zoned : stored_as (t_timestamp Millisecond (Some (codes "UTC"))) ≡ record { physical = int64; converted = None; logical = Some (Logical.timestamp true millis) }
  pub empty_zone : stored_as (t_timestamp Microsecond (Some [])) ≡ record { physical = int64; converted = None; logical = Some (Logical.timestamp false micros) }
  pub seconds : stored_as (t_timestamp Second (Some (codes "UTC"))) ≡ record { physical = int64; converted = None; logical = None }
  pub nothing : stored_as t_null ≡ record { physical = int32; converted = None; logical = Some Logical.unknown }
  pub unsigned : stored_as t_uint64 ≡ record { physical = int64; converted = Some (Converted.unsigned 64); logical = Some (Logical.integer 64 false) }
  pub small_decimals : (stored_as (t_decimal 9 0)).physical ≡ int32
  pub decimals : (stored_as (t_decimal 10 0)).physical ≡ int64
  pub lengths : IsDecimalLength 18 8 × IsDecimalLength 19 9 × IsDecimalLength 22 10 × IsDecimalLength 38 16

pub record FieldsAreRefused : Type 0 where
  pub empty_struct : HasEmptyStruct (nullable (codes "s") (t_list (nullable (codes "item") (t_struct no_fields))))
  pub precision : HasBadDecimal (nullable (codes "d") (t_decimal 39 0)) × HasBadDecimal (nullable (codes "d") (t_decimal 0 0))
  pub scale : HasBadDecimal (nullable (codes "d") (t_decimal 3 4))
  pub time64 : HasBadTime64 (nullable (codes "t") (t_time64 Millisecond))
  pub time32 : HasUnwritten (nullable (codes "t") (t_time32 Nanosecond))
  pub union : HasUnwritten (nullable (codes "u") (t_union no_fields None false))
  pub no_bytes : HasUnwritten (nullable (codes "b") (t_fixed_size_binary 0))
  pub many_bytes : HasUnwritten (nullable (codes "b") (t_fixed_size_binary 2147483648))
  pub most_bytes : HasUnwritten (nullable (codes "b") (t_fixed_size_binary 2147483647)) → ⊥
  pub accepted : IsWritten points × IsWritten prices

pub record LeavesAreListed : Type 0 where
  pub in_order : leaf_types (t_struct (two (nullable (codes "a") t_int64) (nullable (codes "b") (t_list (nullable (codes "item") t_int32))))) ≡ t_int64 ∷ t_int32 ∷ []
  pub as_it_stands : leaf_types (t_extension (codes "x") t_int8 None) ≡ t_extension (codes "x") t_int8 None ∷ []
  pub looked_through : leaf_types (t_extension (codes "x") (t_list (nullable (codes "item") t_int8)) None) ≡ t_int8 ∷ []
  pub odd_map : meets is_odd_map (t_map (nullable (codes "e") t_int8) false) ≡ true
  pub even_map : meets is_odd_map (t_map (nullable (codes "e") (t_extension (codes "x") (t_struct no_fields) None)) false) ≡ false
  pub hidden_union : meets is_union (t_dictionary Int8 (t_union no_fields None false) false) ≡ false
  pub plain : encodes Plain (t_struct no_fields) ≡ true
  pub deltas : (encodes DeltaBinaryPacked (t_decimal 18 0) ≡ true) × (encodes DeltaBinaryPacked (t_decimal 19 0) ≡ false) × (encodes DeltaBinaryPacked t_boolean ≡ false)
  pub strings : (encodes DeltaLengthByteArray (t_extension (codes "x") t_utf8 None) ≡ true) × (encodes DeltaLengthByteArray t_int32 ≡ false)
  pub dictionaries : (encodes RleDictionary (t_dictionary Int8 t_utf8 false) ≡ true) × (encodes RleDictionary t_utf8 ≡ false) × (encodes Rle t_boolean ≡ false)

pub record AreWorked : Type 0 where
  pub trees : TreesAreWorked
  pub leaves : LeavesAreStored
  pub refusals : FieldsAreRefused
  pub lists : LeavesAreListed
