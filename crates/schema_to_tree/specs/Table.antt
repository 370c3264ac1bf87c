-- The tree of a field (Parquet format, LogicalTypes; parquet.thrift: SchemaElement): each Arrow type and what it is stored as.
use Rattle.std.specs.Prelude.{ℕ, List, [], ◌∷◌, codes, Bool, true, false, cond, leb, Option, None, Some}
use Rattle.columns_core.specs.Tree.{TypeTree, t_null, t_boolean, t_int8, t_int16, t_int32, t_int64, t_uint8, t_uint16, t_uint32, t_uint64, t_float32, t_float64, t_timestamp, t_date32, t_date64, t_time32, t_time64, t_duration, t_interval, t_binary, t_fixed_size_binary, t_large_binary, t_utf8, t_large_utf8, t_list, t_fixed_size_list, t_large_list, t_struct, t_map, t_dictionary, t_decimal, t_extension, FieldTree, field, FieldTrees, no_fields, more_fields}
use Rattle.columns_core.specs.declared.types.TimeUnit.TheVariants.{Second, Millisecond, Microsecond, Nanosecond}
use Rattle.pq_tree.specs.Physical.{Physical, boolean, int32, int64, float, double, byte_array, fixed}
use Rattle.pq_tree.specs.Types.{Repetition, required, optional, repeated, millis, micros, nanos, Converted, Logical, Info}
use Rattle.pq_tree.specs.Tree.{Tree, leaf, group, Trees, no_trees, tree, Schema}
use Rattle.schema_to_tree.specs.Length.{decimal_length}

-- ---- leaves

-- what a leaf is stored as: its physical type, its converted type and its logical type
pub record Stored : Type 0 where
  pub physical : Physical
  pub converted : Option Converted
  pub logical : Option Logical

abbrev pub stored : Physical → Option Converted → Option Logical → Stored
stored p c l = record { physical = p; converted = c; logical = l }

-- stored numbers without more, and those that say their width and sign
abbrev pub bare : Physical → Stored
bare p = stored p None None

abbrev pub whole : Physical → Converted → ℕ → Bool → Stored
whole p c width is_signed = stored p (Some c) (Some (Logical.integer width is_signed))

-- a zone that is there and not empty
abbrev pub has_zone : Option (List ℕ) → Bool
has_zone None = false
has_zone (Some []) = false
has_zone (Some (c ∷ cs)) = true

abbrev pub decimal_physical : ℕ → Physical
decimal_physical p = cond (leb p 9) int32 (cond (leb p 18) int64 (fixed (decimal_length p)))

-- a type without a line of its own is not stored
abbrev pub stored_as : TypeTree → Stored
stored_as t_null = stored int32 None (Some Logical.unknown)
stored_as t_boolean = bare boolean
stored_as t_int8 = whole int32 (Converted.signed 8) 8 true
stored_as t_int16 = whole int32 (Converted.signed 16) 16 true
stored_as t_int32 = bare int32
stored_as t_int64 = bare int64
stored_as t_uint8 = whole int32 (Converted.unsigned 8) 8 false
stored_as t_uint16 = whole int32 (Converted.unsigned 16) 16 false
stored_as t_uint32 = whole int32 (Converted.unsigned 32) 32 false
stored_as t_uint64 = whole int64 (Converted.unsigned 64) 64 false
stored_as t_float32 = bare float
stored_as t_float64 = bare double
stored_as t_binary = bare byte_array
stored_as t_large_binary = bare byte_array
stored_as t_utf8 = stored byte_array (Some Converted.utf8) (Some Logical.string)
stored_as t_large_utf8 = stored byte_array (Some Converted.utf8) (Some Logical.string)
stored_as t_date32 = stored int32 (Some Converted.date) (Some Logical.date)
stored_as t_date64 = bare int64
stored_as (t_timestamp Second z) = bare int64
stored_as (t_timestamp Millisecond z) = stored int64 None (Some (Logical.timestamp (has_zone z) millis))
stored_as (t_timestamp Microsecond z) = stored int64 None (Some (Logical.timestamp (has_zone z) micros))
stored_as (t_timestamp Nanosecond z) = stored int64 None (Some (Logical.timestamp (has_zone z) nanos))
stored_as (t_time32 Second) = bare int32
stored_as (t_time32 Millisecond) = stored int32 (Some Converted.time_millis) (Some (Logical.time false millis))
stored_as (t_time64 Microsecond) = stored int64 (Some Converted.time_micros) (Some (Logical.time false micros))
stored_as (t_time64 Nanosecond) = stored int64 None (Some (Logical.time false nanos))
stored_as (t_duration u) = bare int64
stored_as (t_interval u) = stored (fixed 12) (Some Converted.interval) None
stored_as (t_fixed_size_binary n) = bare (fixed n)
stored_as (t_decimal p s) = stored (decimal_physical p) (Some (Converted.decimal p s)) (Some (Logical.decimal p s))
stored_as _ = bare int32

-- a type that stands for the types of its parts
abbrev pub is_compound : TypeTree → Bool
is_compound (t_list f) = true
is_compound (t_large_list f) = true
is_compound (t_fixed_size_list f n) = true
is_compound (t_map f sorted) = true
is_compound (t_struct fs) = true
is_compound (t_dictionary key t sorted) = true
is_compound (t_extension name t m) = true
is_compound t = false

-- ---- nodes

-- what a node says of itself before its type is looked at: no node has a field id
abbrev pub named : List ℕ → Repetition → Info
named name r = record { name = name; repetition = r; id = None; converted = None; logical = None }

-- the same node with its annotations
abbrev pub marked : Info → Option Converted → Option Logical → Info
marked i c l = record { name = i.name; repetition = i.repetition; id = i.id; converted = c; logical = l }

abbrev pub leaf_of : Info → Stored → Tree
leaf_of i s = leaf (marked i s.converted s.logical) s.physical

abbrev pub one : Tree → Trees
one t = tree t no_trees

-- a list or a map: an annotated group over a repeated group over the part
abbrev pub over : Info → Converted → Logical → List ℕ → Tree → Tree
over i c l middle part = group (marked i (Some c) (Some l)) (one (group (named middle repeated) (one part)))

abbrev pub list_over : Info → Tree → Tree
list_over i item = over i Converted.list Logical.list (codes "list") item

abbrev pub map_over : Info → Tree → Tree
map_over i entry = over i Converted.map Logical.map (codes "map") entry

abbrev pub repetition_of : Bool → Repetition
repetition_of nullable = cond nullable optional required

abbrev mutual
  -- the tree of a type, under what its field says
  pub type_tree : Info → TypeTree → Tree
  type_tree i (t_list f) = list_over i (tree_of f)
  type_tree i (t_large_list f) = list_over i (tree_of f)
  type_tree i (t_fixed_size_list f n) = list_over i (tree_of f)
  type_tree i (t_map f sorted) = map_over i (tree_of f)
  type_tree i (t_struct fs) = group (marked i None None) (trees_of fs)
  type_tree i (t_dictionary key t sorted) = type_tree i t
  type_tree i (t_extension name t m) = type_tree i t
  type_tree i t = leaf_of i (stored_as t)

  pub tree_of : FieldTree → Tree
  tree_of (field name t nullable m) = type_tree (named name (repetition_of nullable)) t

  pub trees_of : FieldTrees → Trees
  trees_of no_fields = no_trees
  trees_of (more_fields f fs) = tree (tree_of f) (trees_of fs)

abbrev pub schema_of : FieldTrees → Schema
schema_of fs = record { name = codes "root"; fields = trees_of fs }
