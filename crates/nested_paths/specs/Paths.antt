-- The paths of an array along the leaves of a tree of columns, and where an array and a tree do not go together.
use Rattle.std.specs.Prelude.{ℕ, Bool, cond, ◌==◌, Option, Some, None, List, [], ◌∷◌, ◌++◌, map}
use Rattle.shredding.specs.Parts.{Part, leaf_part, list_part, struct_part}
use Rattle.columns_base.specs.declared.error.Error.{Error}
use Rattle.columns_base.specs.declared.error.Error.TheVariants.{NotYetImplemented, InvalidArgumentError}
use Rattle.columns_base.specs.declared.error.N.TheVariants.{N5}
use Rattle.columns_base.specs.declared.error.A.TheVariants.{A8}
use Rattle.columns_slots.specs.Tree.{ArrayTree, null_array, leaf_array, list_array, fixed_list_array, struct_array, dictionary_array, ArrayTrees, no_arrays, more_arrays}
use Rattle.columns_slots.specs.Slots.{tree_len, first_len, count_arrays}
use Rattle.pq_tree.specs.Tree.{Tree, Trees, no_trees, tree, count_trees}
use Rattle.nested_paths.specs.Nodes.{given, is_optional, item_node, field_nodes, is_leaf_node}

-- ---- what does not go together

abbrev pub first_of_two : Option Error → Option Error → Option Error
first_of_two (Some e) other = Some e
first_of_two None other = other

abbrev pub differs : Option Error
differs = Some (InvalidArgumentError A8)

-- what stands against an array that is a leaf
abbrev pub leaf_misfit : Tree → Option Error
leaf_misfit node = cond (is_leaf_node node) None differs

-- the fields' arrays are as many as the nodes, and else they are not looked at
abbrev pub counted : ℕ → (Trees → Option Error) → Trees → Option Error
counted n below nodes = cond (n == count_trees nodes) (below nodes) differs

-- The first place from the outside in, and among the fields of a struct from the first to the last, at which array and tree do not go
-- together. An array of lists or maps wants a list's node, an array of structs a struct's with as many fields, every other array a leaf:
-- else they differ. Lists of a fixed size are not written, whatever stands against them.
abbrev mutual
  pub misfit : ArrayTree → Tree → Option Error
  misfit (null_array t n) node = leaf_misfit node
  misfit (leaf_array t vs m) node = leaf_misfit node
  misfit (list_array t os c m) node = given differs (misfit c) (item_node node)
  misfit (fixed_list_array t w n c m) node = Some (NotYetImplemented N5)
  misfit (struct_array t cs m) node = given differs (counted (count_arrays cs) (misfits cs)) (field_nodes node)
  misfit (dictionary_array t ks c m) node = leaf_misfit node

  pub misfits : ArrayTrees → Trees → Option Error
  misfits no_arrays no_trees = None
  misfits no_arrays (tree node nodes) = differs
  misfits (more_arrays c cs) no_trees = differs
  misfits (more_arrays c cs) (tree node nodes) = first_of_two (misfit c node) (misfits cs nodes)

-- ---- paths

-- the part of a path that an array is
abbrev pub part_at : Bool → ArrayTree → Part
part_at is_optional (null_array t n) = leaf_part is_optional None n
part_at is_optional (leaf_array t vs m) = leaf_part is_optional m (tree_len (leaf_array t vs m))
part_at is_optional (list_array t os c m) = list_part is_optional m os
part_at is_optional (fixed_list_array t w n c m) = leaf_part is_optional m n
part_at is_optional (struct_array t cs m) = struct_part is_optional m (first_len cs)
part_at is_optional (dictionary_array t ks c m) = leaf_part is_optional m (tree_len (dictionary_array t ks c m))

-- paths that begin with these parts
abbrev pub below : List Part → List (List Part) → List (List Part)
below parts paths = map (λ path. parts ++ path) paths

-- One path for each leaf, in order: the parts from the outermost array to the leaf, each optional as its node is. The masks and offsets
-- are those of the arrays.
abbrev mutual
  pub paths : ArrayTree → Tree → List (List Part)
  paths (null_array t n) node = (part_at (is_optional node) (null_array t n) ∷ []) ∷ []
  paths (leaf_array t vs m) node = (part_at (is_optional node) (leaf_array t vs m) ∷ []) ∷ []
  paths (list_array t os c m) node = below (part_at (is_optional node) (list_array t os c m) ∷ []) (given [] (paths c) (item_node node))
  paths (fixed_list_array t w n c m) node = []
  paths (struct_array t cs m) node = below (part_at (is_optional node) (struct_array t cs m) ∷ []) (given [] (paths_in cs) (field_nodes node))
  paths (dictionary_array t ks c m) node = (part_at (is_optional node) (dictionary_array t ks c m) ∷ []) ∷ []

  pub paths_in : ArrayTrees → Trees → List (List Part)
  paths_in no_arrays nodes = []
  paths_in (more_arrays c cs) no_trees = []
  paths_in (more_arrays c cs) (tree node nodes) = paths c node ++ paths_in cs nodes
