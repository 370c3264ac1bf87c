-- How deep the types of a tree nest.
use Rattle.std.specs.Prelude.{◌≡◌, ◌≤◌, ℕ, ◌+◌, ◌*◌, max, IfSome}
use Rattle.columns_core.specs.Measures.{nesting, fields_nesting}
use Rattle.columns_core.specs.View.{fields_of}
use Rattle.pq_tree.specs.Tree as T
use Rattle.pq_tree.specs.Tree.{Tree, leaf, group, Trees, no_trees, tree, repeats}
use Rattle.schema_from_tree.specs.FromTree.{type_of, arrow_fields}

-- The nodes on the deepest way, of which a repeated one counts twice: it stands for a list, and for what is in the list.
abbrev mutual
  pub depth : Tree → ℕ
  depth (leaf info physical) = repeats info.repetition + 1
  depth (group info children) = repeats info.repetition + (depth_of children + 1)

  pub depth_of : Trees → ℕ
  depth_of no_trees = 0
  depth_of (tree t ts) = max (depth t) (depth_of ts)

-- A type nests no deeper than its node, repeated nodes counted twice, and the fields no deeper than the nodes. So they nest at most twice as
-- deep as the tree.
pub record NestAsTrees : Type 0 where
  pub type : (t : Tree) → IfSome (type_of t) (λ u. nesting u ≤ depth t)
  pub fields : (ts : Trees) → fields_nesting (fields_of (arrow_fields ts)) ≤ depth_of ts
  pub twice : (ts : Trees) → depth_of ts ≤ 2 * T.nesting_of ts
