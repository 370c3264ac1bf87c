-- The columns of a schema: its leaves, each with its greatest levels (Parquet format, "Nested Encoding").
use Rattle.std.specs.Prelude.{ℕ, ◌+◌, ℤ, pos, List, [], ◌∷◌, ◌++◌, map, Option, Some, None}
use Rattle.pq_tree.specs.Options.{or_else}
use Rattle.pq_tree.specs.Physical.{Physical}
use Rattle.pq_tree.specs.Tree.{Leaf, Tree, leaf, group, Trees, no_trees, tree, leaves_of, max_definition, max_repetition, defines, repeats}
use Rattle.pq_tree.specs.Types.{Info}

-- the node of the leaf itself, in which its path ends
abbrev pub last_of : List Info → Option Info
last_of [] = None
last_of (info ∷ path) = or_else (last_of path) (Some info)

-- what is told of a column
pub record Column : Type 0 where
  pub info : Option Info
  pub physical : Physical
  pub max_definition : ℤ
  pub max_repetition : ℤ

abbrev pub column_of : Leaf → Column
column_of l = record { info = last_of l.path; physical = l.physical; max_definition = pos (max_definition l); max_repetition = pos (max_repetition l) }

-- the columns of trees, in order
abbrev pub columns_in : Trees → List Column
columns_in ts = map column_of (leaves_of ts)

-- ---- by a walk from above, which counts the levels on its way

abbrev mutual
  pub columns_under : ℕ → ℕ → Tree → List Column
  columns_under d r (leaf info p) =
      record { info = Some info; physical = p; max_definition = pos (d + defines info.repetition); max_repetition = pos (r + repeats info.repetition) } ∷ []
  columns_under d r (group info ts) = columns_beneath (d + defines info.repetition) (r + repeats info.repetition) ts

  pub columns_beneath : ℕ → ℕ → Trees → List Column
  columns_beneath d r no_trees = []
  columns_beneath d r (tree t ts) = columns_under d r t ++ columns_beneath d r ts
