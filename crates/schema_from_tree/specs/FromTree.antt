-- The Arrow types and fields of a tree (Parquet format, LogicalTypes, "Nested Types"; Arrow columnar format, "Data Types").
use Rattle.std.specs.Prelude.{ℕ, List, [], ◌∷◌, ◌++◌, Bool, true, false, Option, Some, None, option_map, codes, bytes_eq, ◌&&◌, ◌||◌, not, if◌then◌else◌}
use Rattle.columns_core.specs.Tree.{TypeTree, t_list, t_map, t_struct, FieldTree, field}
use Rattle.columns_core.specs.View.{fields_of}
use Rattle.pq_tree.specs.Tree.{Tree, leaf, group, Trees, no_trees, tree}
use Rattle.pq_tree.specs.Types.{Info, Repetition, required, optional, repeated, Logical, Converted}
use Rattle.schema_from_tree.specs.declared.groups.Rule.{Rule}
use Rattle.schema_from_tree.specs.declared.groups.Rule.TheVariants.{ByList, ByMap, ByStruct}
use Rattle.schema_from_tree.specs.Leaves.{leaf_type}

-- ---- what a node says of itself

abbrev pub is_nullable_of : Repetition → Bool
is_nullable_of required = false
is_nullable_of optional = true
is_nullable_of repeated = true

abbrev pub info_of : Tree → Info
info_of (leaf info physical) = info
info_of (group info children) = info

-- a field with the name and the nullability of a node
abbrev pub field_named : List ℕ → Repetition → TypeTree → FieldTree
field_named name repetition t = field name t (is_nullable_of repetition) []

abbrev pub field_as : Info → TypeTree → FieldTree
field_as info t = field_named info.name info.repetition t

-- the rule of a group that is not repeated: the converted type counts only where there is no logical type
abbrev pub rule_of : Option Logical → Option Converted → Rule
rule_of (Some Logical.list) converted = ByList
rule_of (Some Logical.map) converted = ByList
rule_of (Some other) converted = ByStruct
rule_of None (Some Converted.list) = ByList
rule_of None (Some Converted.map) = ByMap
rule_of None (Some Converted.map_key_value) = ByMap
rule_of None other = ByStruct

-- ---- the item of a list

abbrev pub has_one : Trees → Bool
has_one no_trees = false
has_one (tree t no_trees) = true
has_one (tree t (tree u ts)) = false

-- Old writers name a group that is itself the item `array`, or as the list with `_tuple`.
abbrev pub names_an_item : List ℕ → List ℕ → Bool
names_an_item parent name = bytes_eq name (codes "array") || bytes_eq name (parent ++ codes "_tuple")

-- the middle of a list of three levels: the one node in it is the item
abbrev pub is_middle : List ℕ → Info → Trees → Bool
is_middle parent info children = has_one children && not (names_an_item parent info.name)

abbrev pub first_info : Info → Trees → Info
first_info info no_trees = info
first_info info (tree t ts) = info_of t

-- whose name and nullability the item has
abbrev pub item_info : Tree → Info
item_info (leaf info physical) = info
item_info (group info children) = if has_one children && bytes_eq info.name (codes "list") then first_info info children else info

-- ---- types and fields. None where no column gives one

abbrev pub struct_with : List FieldTree → Option TypeTree
struct_with [] = None
struct_with (f ∷ fs) = Some (t_struct (fields_of (f ∷ fs)))

abbrev pub and_others : Option FieldTree → List FieldTree → List FieldTree
and_others None fs = fs
and_others (Some f) fs = f ∷ fs

-- a repeated leaf is a list of items that may be null
abbrev pub repeated_as : Repetition → Info → TypeTree → TypeTree
repeated_as repeated info t = t_list (field_as info t)
repeated_as once info t = t

-- a repeated group is a list of structs that may be null, whatever its annotations say
abbrev pub group_as : Repetition → Rule → Info → Option TypeTree → Option TypeTree → Option TypeTree → Option TypeTree
group_as repeated rule info list map struct = option_map (λ t. t_list (field_as info t)) struct
group_as once ByList info list map struct = list
group_as once ByMap info list map struct = map
group_as once ByStruct info list map struct = struct

abbrev mutual
  pub type_of : Tree → Option TypeTree
  type_of (leaf info physical) = Some (repeated_as info.repetition info (leaf_type info physical))
  type_of (group info children) = group_as info.repetition (rule_of info.logical info.converted) info (list_of info.name children) (map_of children) (struct_with (arrow_fields children))

  -- the list rule, on the first child
  pub list_of : List ℕ → Trees → Option TypeTree
  list_of parent no_trees = None
  list_of parent (tree t ts) = option_map (λ item. t_list (field_as (item_info t) item)) (item_of parent t)

  pub item_of : List ℕ → Tree → Option TypeTree
  item_of parent (leaf info physical) = Some (leaf_type info physical)
  item_of parent (group info children) = if is_middle parent info children then first_of children else struct_with (arrow_fields children)

  pub first_of : Trees → Option TypeTree
  first_of no_trees = None
  first_of (tree t ts) = type_of t

  -- the map rule, on the first child
  pub map_of : Trees → Option TypeTree
  map_of no_trees = None
  map_of (tree t ts) = option_map (λ entry. t_map (field_as (info_of t) entry) false) (type_of t)

  -- the fields of those nodes that give a type
  pub arrow_fields : Trees → List FieldTree
  arrow_fields no_trees = []
  arrow_fields (tree t ts) = and_others (option_map (field_as (info_of t)) (type_of t)) (arrow_fields ts)
