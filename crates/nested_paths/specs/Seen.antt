-- What the paths of an array stand for: the slots of the array as they are seen along the way to each leaf.
use Rattle.std.specs.Prelude.{◌≡◌, ℕ, true, cond, None, List, [], ◌∷◌, map, length}
use Rattle.shredding.specs.Along.{along, thin}
use Rattle.shredding.specs.Parts.{Part, slot_count, path_way}
use Rattle.shredding.specs.Shape.{Shape, leaf, list, struct, Shapes, no_shapes, shape, Way, at_leaf}
use Rattle.shredding.specs.Shred.{column}
use Rattle.shredding.specs.Slot.{Slot, null, value}
use Rattle.columns_core.specs.Shapes.{leaf_type}
use Rattle.columns_slots.specs.Tree.{Mask, ArrayTree, null_array, leaf_array, list_array, fixed_list_array, struct_array, dictionary_array, ArrayTrees, no_arrays, more_arrays}
use Rattle.columns_slots.specs.Slots.{slot_at, leaf_at, entry_at, type_of}
use Rattle.levels.specs.InBounds.{IsInBounds, bounded_slots}
use Rattle.pq_tree.specs.Tree.{Tree, Trees, no_trees, tree}
use Rattle.nested_paths.specs.Nodes.{given, is_optional, item_node, field_nodes}
use Rattle.nested_paths.specs.PathLeaf.{FitsLeaf}

-- ---- an array as a tree of columns reads it

-- masks of required nodes are not looked at
abbrev pub mask_at : Tree → Mask → Mask
mask_at node m = cond (is_optional node) m None

-- the array without the masks that are not looked at
abbrev mutual
  pub read_by : ArrayTree → Tree → ArrayTree
  read_by (null_array t n) node = null_array t n
  read_by (leaf_array t vs m) node = leaf_array t vs (mask_at node m)
  read_by (list_array t os c m) node = list_array t os (given c (read_by c) (item_node node)) (mask_at node m)
  read_by (fixed_list_array t w n c m) node = fixed_list_array t w n c m
  read_by (struct_array t cs m) node = struct_array t (given cs (read_all cs) (field_nodes node)) (mask_at node m)
  read_by (dictionary_array t ks c m) node = dictionary_array t ks c (mask_at node m)

  pub read_all : ArrayTrees → Trees → ArrayTrees
  read_all no_arrays nodes = no_arrays
  read_all (more_arrays c cs) no_trees = more_arrays c cs
  read_all (more_arrays c cs) (tree node nodes) = more_arrays (read_by c node) (read_all cs nodes)

-- The shape of what is read: the array's lists, structs and leaves, each nullable where its node is optional.
abbrev pub leaf_shape : ArrayTree → Tree → Shape
leaf_shape a node = leaf (is_optional node) (leaf_type (type_of a))

abbrev mutual
  pub shape_by : ArrayTree → Tree → Shape
  shape_by (null_array t n) node = leaf_shape (null_array t n) node
  shape_by (leaf_array t vs m) node = leaf_shape (leaf_array t vs m) node
  shape_by (list_array t os c m) node = list (is_optional node) (given (leaf_shape c node) (shape_by c) (item_node node))
  shape_by (fixed_list_array t w n c m) node = leaf_shape (fixed_list_array t w n c m) node
  shape_by (struct_array t cs m) node = struct (is_optional node) (given no_shapes (shapes_by cs) (field_nodes node))
  shape_by (dictionary_array t ks c m) node = leaf_shape (dictionary_array t ks c m) node

  pub shapes_by : ArrayTrees → Trees → Shapes
  shapes_by no_arrays nodes = no_shapes
  shapes_by (more_arrays c cs) no_trees = no_shapes
  shapes_by (more_arrays c cs) (tree node nodes) = shape (shape_by c node) (shapes_by cs nodes)

-- ---- a path over its leaf array

-- The slot that a leaf array has at a position, whatever its own mask says: its value, or its key's entry, which is null where the entry
-- is null. All slots of a null array are null, and an entry that is no value counts as null.
abbrev pub leaf_slot : ArrayTree → ℕ → Slot
leaf_slot (null_array t n) i = null
leaf_slot (leaf_array t vs m) i = value (leaf_at vs i)
leaf_slot (list_array t os c m) i = null
leaf_slot (fixed_list_array t w n c m) i = null
leaf_slot (struct_array t cs m) i = null
leaf_slot (dictionary_array t ks c m) i = along (at_leaf true) (slot_at c (entry_at ks i))

-- A path with the array of its leaf stands for what is seen of rows along a way.
pub record IsSeen (rows : List Slot) (w : Way) (parts : List Part) (last : ArrayTree) : Type 0 where
  pub in_bounds : IsInBounds parts
  pub count : slot_count parts ≡ length rows
  -- the array has the leaf's positions, and its nulls are those of the leaf's mask where that is looked at
  pub leaf : FitsLeaf last parts
  pub way : path_way parts ≡ thin w
  pub slots : bounded_slots (leaf_slot last) parts ≡ map (along w) rows
  -- so the levels and values of the path are those of the rows' column
  pub column : column (path_way parts) (bounded_slots (leaf_slot last) parts) ≡ column w rows

-- one path and one leaf array for each way, in order
abbrev pub AreSeen : List Slot → List Way → List (List Part) → List ArrayTree → Type 0
AreSeen rows [] [] [] = Unit {0}
AreSeen rows (w ∷ ws) (parts ∷ paths) (last ∷ leaves) = IsSeen rows w parts last × AreSeen rows ws paths leaves
AreSeen rows _ _ _ = ⊥
