-- Which parts of the paths of an array are lists with offsets of 64 bits (Arrow columnar format, "Variable-size List Layout").
use Rattle.std.specs.Prelude.{Bool, true, false, List, [], ◌∷◌, ◌++◌, map, Vec}
use Rattle.std.specs.Global.{Global}
use Rattle.columns_core.specs.Shapes.{base}
use Rattle.columns_core.specs.Tree.{TypeTree, t_large_list}
use Rattle.columns_slots.specs.Tree.{ArrayTree, null_array, leaf_array, list_array, fixed_list_array, struct_array, dictionary_array, ArrayTrees, no_arrays, more_arrays}
use Rattle.levels.specs.Nested.{is_large}
use Rattle.levels.specs.declared.nested.Nested.{Nested}

abbrev pub is_large_type : TypeTree → Bool
is_large_type (t_large_list f) = true
is_large_type t = false

-- an array of lists whose type, without its extensions, has offsets of 64 bits
abbrev pub is_large_array : ArrayTree → Bool
is_large_array (null_array t n) = false
is_large_array (leaf_array t vs m) = false
is_large_array (list_array t os c m) = is_large_type (base t)
is_large_array (fixed_list_array t w n c m) = false
is_large_array (struct_array t cs m) = false
is_large_array (dictionary_array t ks c m) = false

-- paths that begin with parts of these kinds
abbrev pub kinds_below : List Bool → List (List Bool) → List (List Bool)
kinds_below parents paths = map (λ path. parents ++ path) paths

-- For each leaf, in order, the kinds of the arrays from the outermost to the leaf.
abbrev mutual
  pub kinds : ArrayTree → List (List Bool)
  kinds (null_array t n) = (false ∷ []) ∷ []
  kinds (leaf_array t vs m) = (false ∷ []) ∷ []
  kinds (list_array t os c m) = kinds_below (is_large_array (list_array t os c m) ∷ []) (kinds c)
  kinds (fixed_list_array t w n c m) = []
  kinds (struct_array t cs m) = kinds_below (false ∷ []) (kinds_in cs)
  kinds (dictionary_array t ks c m) = (false ∷ []) ∷ []

  pub kinds_in : ArrayTrees → List (List Bool)
  kinds_in no_arrays = []
  kinds_in (more_arrays c cs) = kinds c ++ kinds_in cs

-- the kinds of the parts of a path, and of each path, as the code has them
abbrev pub kinds_of : List Nested → List Bool
kinds_of path = map is_large path

abbrev pub all_kinds : List (Vec Nested Global) → List (List Bool)
all_kinds found = map (λ path. kinds_of path.items) found
