-- The greatest levels of a path, and of a leaf of a tree (Parquet format, "Nested Encoding").
use Rattle.std.specs.Prelude.{ℕ, List}
use Rattle.shredding.specs.Parts.{Part, path_way}
use Rattle.shredding.specs.Shred as path
use Rattle.pq_tree.specs.Tree.{Leaf, max_definition, max_repetition}

-- the definition level and the repetition level
abbrev pub path_levels : List Part → ℕ × ℕ
path_levels parts = (path.max_definition (path_way parts), path.max_repetition (path_way parts))

abbrev pub leaf_levels : Leaf → ℕ × ℕ
leaf_levels l = (max_definition l, max_repetition l)
