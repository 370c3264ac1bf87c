-- Worked trees and leaves, with their Arrow types.
use Rattle.std.specs.Prelude.{◌≡◌, ℕ, List, [], ◌∷◌, true, false, Option, Some, None, option_map, codes}
use Rattle.columns_core.specs.declared.types.TimeUnit.TheVariants.{Millisecond, Microsecond, Nanosecond}
use Rattle.columns_core.specs.declared.types.IntervalUnit.TheVariants.{DayTime}
use Rattle.columns_core.specs.Tree.{TypeTree, t_int8, t_int32, t_int64, t_uint32, t_uint64, t_timestamp, t_date32, t_time32, t_time64, t_interval, t_binary, t_fixed_size_binary, t_utf8, t_decimal, t_list, t_map, t_struct, FieldTree, field}
use Rattle.columns_core.specs.Measures.{nesting}
use Rattle.columns_core.specs.View.{fields_of}
use Rattle.pq_tree.specs.Physical.{Physical, int32, int64, int96, byte_array, fixed}
use Rattle.pq_tree.specs.Tree.{Tree, leaf, group, no_trees, tree}
use Rattle.pq_tree.specs.TreeViews.{trees_of}
use Rattle.pq_tree.specs.Types.{Info, Repetition, required, optional, repeated, Logical, Converted}
use Rattle.pq_tree.specs.Types.TimeUnit.{millis, micros, nanos}
use Rattle.schema_from_tree.specs.Depth.{depth}
use Rattle.schema_from_tree.specs.Leaves.{leaf_type}
use Rattle.schema_from_tree.specs.FromTree.{type_of, arrow_fields}

abbrev pub node : List ℕ → Repetition → Option Converted → Option Logical → Info
node name repetition converted logical = record { name = name; repetition = repetition; id = None; converted = converted; logical = logical }

abbrev pub plain_node : List ℕ → Repetition → Info
plain_node name repetition = node name repetition None None

-- a leaf of numbers, and one of text
abbrev pub number : List ℕ → Repetition → Tree
number name repetition = leaf (plain_node name repetition) int32

abbrev pub words : List ℕ → Repetition → Tree
words name repetition = leaf (node name repetition (Some Converted.utf8) None) byte_array

abbrev pub list_node : List ℕ → List Tree → Tree
list_node name children = group (node name optional (Some Converted.list) None) (trees_of children)

abbrev pub nothing : Tree
nothing = group (plain_node (codes "nothing") optional) no_trees

-- the type of a leaf with these annotations
abbrev pub annotated : Physical → Option Logical → Option Converted → TypeTree
annotated physical logical converted = leaf_type (node [] required converted logical) physical

abbrev pub pair : FieldTree → FieldTree → TypeTree
pair f g = t_struct (fields_of (f ∷ g ∷ []))

abbrev pub key_and_value : List ℕ → Tree
key_and_value name = group (plain_node name repeated) (trees_of (words (codes "key") required ∷ number (codes "value") optional ∷ []))

-- The lists of the format's backward compatibility rules (LogicalTypes, "Lists").
pub record AreLists : Type 0 where
  pub three_levels : type_of (list_node (codes "a") (group (plain_node (codes "list") repeated) (trees_of (number (codes "element") required ∷ [])) ∷ [])) ≡ Some (t_list (field (codes "element") t_int32 false []))
  pub two_levels : type_of (list_node (codes "a") (number (codes "element") repeated ∷ [])) ≡ Some (t_list (field (codes "element") t_int32 true []))
  pub of_pairs : type_of (list_node (codes "a") (group (plain_node (codes "element") repeated) (trees_of (words (codes "str") required ∷ number (codes "num") required ∷ [])) ∷ [])) ≡ Some (t_list (field (codes "element") (pair (field (codes "str") t_utf8 false []) (field (codes "num") t_int32 false [])) true []))
  pub of_array : type_of (list_node (codes "a") (group (plain_node (codes "array") repeated) (trees_of (words (codes "str") required ∷ [])) ∷ [])) ≡ Some (t_list (field (codes "array") (t_struct (fields_of (field (codes "str") t_utf8 false [] ∷ []))) true []))
  pub of_tuple : type_of (list_node (codes "my_list") (group (plain_node (codes "my_list_tuple") repeated) (trees_of (words (codes "str") required ∷ [])) ∷ [])) ≡ Some (t_list (field (codes "my_list_tuple") (t_struct (fields_of (field (codes "str") t_utf8 false [] ∷ []))) true []))
  pub other_tuple : type_of (list_node (codes "list") (group (plain_node (codes "my_list_tuple") repeated) (trees_of (words (codes "str") required ∷ [])) ∷ [])) ≡ Some (t_list (field (codes "my_list_tuple") t_utf8 true []))
  pub of_bag : type_of (list_node (codes "a") (group (plain_node (codes "bag") repeated) (trees_of (number (codes "item") required ∷ [])) ∷ [])) ≡ Some (t_list (field (codes "bag") t_int32 true []))
  pub of_nothing : type_of (list_node (codes "a") (nothing ∷ number (codes "b") required ∷ [])) ≡ None

-- Maps, and nodes that are repeated or empty.
pub record AreGroups : Type 0 where
  pub converted_map : type_of (group (node (codes "m") optional (Some Converted.map) None) (trees_of (key_and_value (codes "map") ∷ []))) ≡ Some (t_map (field (codes "map") (t_list (field (codes "map") (pair (field (codes "key") t_utf8 false []) (field (codes "value") t_int32 true [])) true [])) true []) false)
  pub logical_map : type_of (group (node (codes "m") optional (Some Converted.map) (Some Logical.map)) (trees_of (key_and_value (codes "key_value") ∷ []))) ≡ Some (t_list (field (codes "key_value") (pair (field (codes "key") t_utf8 false []) (field (codes "value") t_int32 true [])) true []))
  pub repeated_leaf : type_of (number (codes "a") repeated) ≡ Some (t_list (field (codes "a") t_int32 true []))
  pub repeated_group : type_of (key_and_value (codes "a")) ≡ Some (t_list (field (codes "a") (pair (field (codes "key") t_utf8 false []) (field (codes "value") t_int32 true [])) true []))
  pub all_vanish : type_of (group (plain_node (codes "a") optional) (trees_of (nothing ∷ group (plain_node (codes "b") repeated) (trees_of (nothing ∷ [])) ∷ []))) ≡ None
  pub one_vanishes : arrow_fields (trees_of (nothing ∷ number (codes "b") optional ∷ [])) ≡ (field (codes "b") t_int32 true [] ∷ [])

-- Leaves by their annotations.
pub record AreLeaves : Type 0 where
  pub logical_first : annotated int32 (Some (Logical.integer 8 true)) (Some (Converted.unsigned 32)) ≡ t_int8
  pub converted_next : annotated int32 (Some Logical.uuid) (Some (Converted.unsigned 32)) ≡ t_uint32
  pub wide_integer : annotated int32 (Some (Logical.integer 64 false)) (Some Converted.date) ≡ t_int32
  pub day : annotated int32 None (Some Converted.date) ≡ t_date32
  pub millisecond : annotated int32 (Some (Logical.time true millis)) None ≡ t_time32 Millisecond
  pub no_millisecond : annotated int32 (Some (Logical.time false nanos)) (Some Converted.time_millis) ≡ t_int32
  pub nanosecond : annotated int64 (Some (Logical.time true nanos)) None ≡ t_time64 Nanosecond
  pub adjusted : annotated int64 (Some (Logical.timestamp true micros)) None ≡ t_timestamp Microsecond (Some (codes "+00:00"))
  pub local : annotated int64 (Some (Logical.timestamp false micros)) None ≡ t_timestamp Microsecond None
  pub old_stamp : annotated int64 None (Some Converted.timestamp_millis) ≡ t_timestamp Millisecond None
  pub unsigned_long : annotated int64 None (Some (Converted.unsigned 64)) ≡ t_uint64
  pub long : annotated int64 None (Some (Converted.unsigned 32)) ≡ t_int64
  pub impala : annotated int96 None None ≡ t_timestamp Nanosecond None
  pub text : annotated byte_array (Some Logical.string) (Some Converted.json) ≡ t_utf8
  pub no_text : annotated byte_array (Some Logical.json) (Some Converted.utf8) ≡ t_binary
  pub amount : annotated (fixed 5) (Some (Logical.decimal 9 2)) None ≡ t_decimal 9 2
  pub interval : annotated (fixed 12) None (Some Converted.interval) ≡ t_interval DayTime
  pub no_interval : annotated (fixed 12) (Some Logical.uuid) (Some Converted.interval) ≡ t_fixed_size_binary 12

-- Repeated nodes, each of which counts twice: in one another, and as the middle of a list.
pub record AreDeep : Type 0 where
  pub nested : depth (group (plain_node (codes "a") repeated) (tree (group (plain_node (codes "b") repeated) (tree (number (codes "c") required) no_trees)) no_trees)) ≡ 5
  pub nested_type : option_map nesting (type_of (group (plain_node (codes "a") repeated) (tree (group (plain_node (codes "b") repeated) (tree (number (codes "c") required) no_trees)) no_trees))) ≡ Some 5
  pub required_type : option_map nesting (type_of (group (plain_node (codes "a") required) (tree (number (codes "c") required) no_trees))) ≡ Some 2
  pub listed : depth (list_node (codes "a") (group (plain_node (codes "list") repeated) (tree (number (codes "element") required) no_trees) ∷ [])) ≡ 4
  pub listed_type : option_map nesting (type_of (list_node (codes "a") (group (plain_node (codes "list") repeated) (tree (number (codes "element") required) no_trees) ∷ []))) ≡ Some 2

pub record AreWorked : Type 0 where
  pub lists : AreLists
  pub groups : AreGroups
  pub leaves : AreLeaves
  pub depths : AreDeep
