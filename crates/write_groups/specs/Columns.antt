-- The columns of the arrays of a chunk (Parquet format, "Row groups", "Nested Encoding").
use Rattle.std.specs.Prelude.{◌≡◌, ◌≢◌, ◌⊎◌, ◌<◌, ℕ, Some, None, All, List, [], ◌∷◌, ◌++◌, length, map, false}
use Rattle.shredding.specs.Shape.{ways}
use Rattle.columns_base.specs.declared.error.Error.{Error}
use Rattle.columns_base.specs.declared.error.Error.TheVariants.{InvalidArgumentError, NotYetImplemented}
use Rattle.columns_base.specs.declared.error.A.TheVariants.{A8}
use Rattle.columns_base.specs.declared.error.N.TheVariants.{N7}
use Rattle.columns_slots.specs.Slots.{slots, count_arrays, IsSound}
use Rattle.columns_slots.specs.Tree.{ArrayTree, ArrayTrees, no_arrays, more_arrays}
use Rattle.nested_paths.specs.Leaves.{array_leaves, node_of}
use Rattle.nested_paths.specs.Paths.{misfit, paths}
use Rattle.nested_paths.specs.Seen.{read_by, shape_by, AreSeen}
use Rattle.pq_tree.specs.Tree.{Tree, Trees, no_trees, tree, leaves, nesting}
use Rattle.pq_tree.specs.declared.types.Encoding.{Encoding}
use Rattle.write_pages.specs.Columns.{AnyRefused, AreColumns}
use Rattle.write_pages.specs.declared.options.WriteOptions.{WriteOptions}
use Rattle.write_groups.specs.Given.{to_come}
use Rattle.write_groups.specs.declared.column.ChunkColumn.{ChunkColumn}

-- no page of it was asked for
pub record IsFresh (s : ChunkColumn) : Type 0 where
  pub has_failed : s.has_failed ≡ false

-- The columns of one array that is written by a tree, in these encodings: those of its paths, which are what is seen of its slots along the way to each leaf.
pub record AreFieldColumns (o : WriteOptions) (a : ArrayTree) (t : Tree) (es : List Encoding) (columns : List ChunkColumn) : Type 0 where
  pub sound : IsSound a
  pub fits : misfit a t ≡ None
  pub are : AreColumns o (map node_of (leaves t)) (paths a t) (array_leaves a) es (map to_come columns)
  pub seen : AreSeen (slots (read_by a t)) (ways (shape_by a t)) (paths a t) (array_leaves a)
  pub fresh : All IsFresh columns

-- one array, tree and list of encodings for each field, and the columns of one field after another
abbrev pub AreGroupColumns : WriteOptions → ArrayTrees → Trees → List (List Encoding) → List ChunkColumn → Type 0
AreGroupColumns o no_arrays no_trees [] columns = columns ≡ []
AreGroupColumns o (more_arrays a cs) (tree t ts) (es ∷ ess) columns =
    (mine : List ChunkColumn) × (others : List ChunkColumn) × (columns ≡ mine ++ others) × AreFieldColumns o a t es mine × AreGroupColumns o cs ts ess others
AreGroupColumns o _ _ _ _ = ⊥

-- there are as many lists of encodings and as many trees as arrays
abbrev pub AreSoMany : ArrayTrees → ℕ → ℕ → Type 0
AreSoMany chunk encodings trees = (encodings ≡ count_arrays chunk) × (trees ≡ count_arrays chunk)

-- ---- why there are none

-- The tree of a field nests past 128, array and tree do not go together, there are more or fewer encodings than leaves, or the pages of a column are refused.
abbrev pub RefusesField : WriteOptions → ArrayTree → Tree → List Encoding → Error → Type 0
RefusesField o a t es e =
    ((e ≡ NotYetImplemented N7) × (128 < nesting t))
    ⊎ (misfit a t ≡ Some e)
    ⊎ ((e ≡ InvalidArgumentError A8) × (length es ≢ length (leaves t)))
    ⊎ AnyRefused o (map node_of (leaves t)) (paths a t) (array_leaves a) es e

-- those of some field
abbrev pub RefusesFields : WriteOptions → ArrayTrees → Trees → List (List Encoding) → Error → Type 0
RefusesFields o (more_arrays a cs) (tree t ts) (es ∷ ess) e = RefusesField o a t es e ⊎ RefusesFields o cs ts ess e
RefusesFields o _ _ _ e = ⊥
