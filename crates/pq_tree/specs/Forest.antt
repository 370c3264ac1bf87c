-- The trees that a schema's elements spell, and why none are read.
use Rattle.std.specs.Prelude.{◌≡◌, ◌⊎◌, ℕ, ◌<◌, List}
use Rattle.columns_base.specs.declared.error.Error.{Error}
use Rattle.columns_base.specs.declared.error.Error.TheVariants.{Memory, OutOfSpec, NotYetImplemented}
use Rattle.columns_base.specs.declared.error.S.TheVariants.{S1}
use Rattle.columns_base.specs.declared.error.N.TheVariants.{N7}
use Rattle.pq_tree.specs.Reads.{HasNone}
use Rattle.pq_tree.specs.Tree.{Element, Trees, count_trees, preorder_of, nesting_of}

-- The elements are so many trees in preorder, and no more.
pub record AreTrees (es : List Element) (n : ℕ) (ts : Trees) : Type 0 where
  pub counts : count_trees ts ≡ n
  pub are : es ≡ preorder_of ts

-- how deep the trees may nest beneath the root
abbrev pub max_nesting : ℕ
max_nesting = 127

-- They are no trees, or they nest too deep. Want of memory alone is free.
abbrev pub RefusesTrees : List Element → ℕ → Error → Type 0
RefusesTrees es n e = (e ≡ Memory) ⊎ ((e ≡ OutOfSpec S1) × HasNone (AreTrees es n)) ⊎ ((e ≡ NotYetImplemented N7) × (ts : Trees) × AreTrees es n ts × (max_nesting < nesting_of ts))
