-- The names of the nodes on the path to each leaf (Parquet format, parquet.thrift: ColumnMetaData, path_in_schema).
use Rattle.std.specs.Prelude.{ℕ, List, [], ◌∷◌, ◌++◌, map, string_bytes, String, Vec}
use Rattle.std.specs.Global.{Global}
use Rattle.pq_tree.specs.Tree.{Leaf, Tree, leaf, group, Trees, no_trees, tree, leaves_of}

-- from the node beneath the root to the leaf
abbrev pub names_of : Leaf → List (List ℕ)
names_of l = map (λ i. i.name) l.path

-- of each leaf, in order
abbrev pub paths_in : Trees → List (List (List ℕ))
paths_in ts = map names_of (leaves_of ts)

abbrev pub path_view : Vec (String Global) Global → List (List ℕ)
path_view path = map string_bytes path.items

-- ---- by a walk from above, which takes the names along

abbrev mutual
  pub paths_under : List (List ℕ) → Tree → List (List (List ℕ))
  paths_under names (leaf info p) = (names ++ info.name ∷ []) ∷ []
  paths_under names (group info ts) = paths_beneath (names ++ info.name ∷ []) ts

  pub paths_beneath : List (List ℕ) → Trees → List (List (List ℕ))
  paths_beneath names no_trees = []
  paths_beneath names (tree t ts) = paths_under names t ++ paths_beneath names ts
