-- The tree of a file's columns (Parquet format, "Metadata" and parquet.thrift: SchemaElement; "Nested Encoding" for the greatest levels).
use Rattle.std.specs.Prelude.{ℕ, suc, max, ◌+◌, Option, Some, None, List, [], ◌∷◌, ◌++◌, map}
use Rattle.pq_tree.specs.Physical.{Physical}
use Rattle.pq_tree.specs.Types.{Repetition, required, optional, repeated, Info}

mutual
  pub data Tree : Type 0 where
    leaf : Info → Physical → Tree
    group : Info → Trees → Tree

  pub data Trees : Type 0 where
    no_trees : Trees
    tree : Tree → Trees → Trees

pub record Schema : Type 0 where
  pub name : List ℕ
  pub fields : Trees

-- ---- leaves

-- A leaf by the nodes on its path, the outermost first.
pub record Leaf : Type 0 where
  pub path : List Info
  pub physical : Physical

abbrev pub under : Info → Leaf → Leaf
under info l = record { path = info ∷ l.path; physical = l.physical }

-- the leaves, in order
abbrev mutual
  pub leaves : Tree → List Leaf
  leaves (leaf info p) = record { path = info ∷ []; physical = p } ∷ []
  leaves (group info ts) = map (under info) (leaves_of ts)

  pub leaves_of : Trees → List Leaf
  leaves_of no_trees = []
  leaves_of (tree t ts) = leaves t ++ leaves_of ts

abbrev pub columns_of : Schema → List Leaf
columns_of s = leaves_of s.fields

-- ---- the greatest levels

abbrev pub defines : Repetition → ℕ
defines required = 0
defines optional = 1
defines repeated = 1

abbrev pub repeats : Repetition → ℕ
repeats required = 0
repeats optional = 0
repeats repeated = 1

abbrev pub sum_over : (Repetition → ℕ) → List Info → ℕ
sum_over f [] = 0
sum_over f (info ∷ path) = f info.repetition + sum_over f path

abbrev pub max_definition : Leaf → ℕ
max_definition l = sum_over defines l.path

abbrev pub max_repetition : Leaf → ℕ
max_repetition l = sum_over repeats l.path

-- ---- preorder

-- An element of the preorder: a leaf has a type, and a group the number of its children.
pub record Element : Type 0 where
  pub physical : Option Physical
  pub children : ℕ
  pub info : Info

abbrev pub count_trees : Trees → ℕ
count_trees no_trees = 0
count_trees (tree t ts) = suc (count_trees ts)

abbrev mutual
  pub preorder : Tree → List Element
  preorder (leaf info p) = record { physical = Some p; children = 0; info = info } ∷ []
  preorder (group info ts) = record { physical = None; children = count_trees ts; info = info } ∷ preorder_of ts

  pub preorder_of : Trees → List Element
  preorder_of no_trees = []
  preorder_of (tree t ts) = preorder t ++ preorder_of ts

-- ---- how deep it nests

-- a node without children nests 1, every other one more than its deepest child
abbrev mutual
  pub nesting : Tree → ℕ
  nesting (leaf info p) = 1
  nesting (group info ts) = suc (nesting_of ts)

  pub nesting_of : Trees → ℕ
  nesting_of no_trees = 0
  nesting_of (tree t ts) = max (nesting t) (nesting_of ts)

-- counted from the root
abbrev pub schema_nesting : Schema → ℕ
schema_nesting s = suc (nesting_of s.fields)
