-- The number of a type's leaves, which is the same however they are told.
use Rattle.std.specs.Prelude.{◌≡◌, ◌≤◌, ◌-◌, ◌^◌, ℕ, true, false, is_some, min, length, All}
use Rattle.columns_core.specs.Measures.{field_leaves}
use Rattle.columns_core.specs.Shapes.{base}
use Rattle.columns_core.specs.Tree.{TypeTree, FieldTree}
use Rattle.pq_tree.specs.Tree.{Tree, leaves}
use Rattle.schema_fit.specs.PageTable.{row_of}
use Rattle.schema_to_tree.specs.Conditions.{IsWritten}
use Rattle.schema_to_tree.specs.Leaves.{field_leaf_types, field_meets, is_union}
use Rattle.schema_to_tree.specs.Table.{tree_of}

-- `usize::MAX`
abbrev pub largest : ℕ
largest = 2 ^ 64 - 1

-- pages have values of the leaf type, which may be null
abbrev pub IsInTable : TypeTree → Type 0
IsInTable t = is_some (row_of (record { data_type = base t; is_nullable = true })) ≡ true

-- As many leaf types as `transverse` gives answers for, leaves of the tree and columns.
pub record AreCounted (f : FieldTree) (t : Tree) : Type 0 where
  pub types : length (field_leaf_types f) ≡ field_leaves f
  pub nodes : length (leaves t) ≡ field_leaves f
  pub columns : min largest (field_leaves f) ≡ field_leaves f
  -- and no call is refused for a union
  pub unions : field_meets is_union f ≡ false

-- A field that is written as a tree, and whose leaves are each of a type of the page table. A map whose entry is no struct is refused by
-- `transverse` alone.
abbrev pub LeavesAreCounted : Type 0
LeavesAreCounted =
    (f : FieldTree) (t : Tree) → (t ≡ tree_of f) × IsWritten f → All IsInTable (field_leaf_types f) → field_leaves f ≤ largest → AreCounted f t
