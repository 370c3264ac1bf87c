-- The leaves of an array and of a tree of columns, in order.
use Rattle.std.specs.Prelude.{Bool, true, false, ◌||◌, List, [], ◌∷◌, ◌++◌, Option, Some}
use Rattle.columns_slots.specs.Tree.{ArrayTree, null_array, leaf_array, list_array, fixed_list_array, struct_array, dictionary_array, ArrayTrees, no_arrays, more_arrays}
use Rattle.pq_tree.specs.Columns.{last_of}
use Rattle.pq_tree.specs.Physical.{Physical}
use Rattle.pq_tree.specs.Tree.{Leaf}
use Rattle.pq_tree.specs.TreeViews.{info_view}
use Rattle.pq_tree.specs.Types.{Info}
use Rattle.pq_tree.specs.Views.{physical_view}
use Rattle.pq_tree.specs.declared.types.PrimitiveType.{PrimitiveType}

-- The leaves of lists and of maps are those of the items, the leaves of structs those of the arrays of the fields, one field after
-- another. Every other array is a leaf: a dictionary too, whatever its entries are.
abbrev mutual
  pub array_leaves : ArrayTree → List ArrayTree
  array_leaves (null_array t n) = null_array t n ∷ []
  array_leaves (leaf_array t vs m) = leaf_array t vs m ∷ []
  array_leaves (list_array t os c m) = array_leaves c
  array_leaves (fixed_list_array t w n c m) = array_leaves c
  array_leaves (struct_array t cs m) = leaves_in cs
  array_leaves (dictionary_array t ks c m) = dictionary_array t ks c m ∷ []

  pub leaves_in : ArrayTrees → List ArrayTree
  leaves_in no_arrays = []
  leaves_in (more_arrays c cs) = array_leaves c ++ leaves_in cs

-- an array of lists of a fixed size is on the way to a leaf
abbrev mutual
  pub has_fixed_list : ArrayTree → Bool
  has_fixed_list (null_array t n) = false
  has_fixed_list (leaf_array t vs m) = false
  has_fixed_list (list_array t os c m) = has_fixed_list c
  has_fixed_list (fixed_list_array t w n c m) = true
  has_fixed_list (struct_array t cs m) = have_fixed_list cs
  has_fixed_list (dictionary_array t ks c m) = false

  pub have_fixed_list : ArrayTrees → Bool
  have_fixed_list no_arrays = false
  have_fixed_list (more_arrays c cs) = has_fixed_list c || have_fixed_list cs

-- What a leaf of a tree says of itself: its own node, which is the last one of its path, and its physical type.
abbrev pub node_of : Leaf → Option Info × Physical
node_of l = (last_of l.path, l.physical)

-- the same of a leaf by itself
abbrev pub leaf_node : PrimitiveType → Option Info × Physical
leaf_node p = (Some (info_view p.field_info p.converted_type p.logical_type), physical_view p.physical_type)
