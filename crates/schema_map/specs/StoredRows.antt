-- The two sides of the page table: as what a type's values may be stored, and what is stored for a value.
use Rattle.std.specs.Prelude.{◌≡◌, ◌↔◌, true, false, Bool, Some}
use Rattle.shredding.specs.Shape.{LeafType}
use Rattle.shredding.specs.Slot.{Value}
use Rattle.columns_core.specs.Shapes.{leaf_type}
use Rattle.columns_core.specs.Tree.{TypeTree, t_null}
use Rattle.pq_tree.specs.Physical.{Physical}
use Rattle.pq_files.specs.Stored.{IsStored}
use Rattle.schema_fit.specs.declared.page_table.Row.{Row}
use Rattle.schema_fit.specs.PageTable.{allows, row_of}
use Rattle.schema_fit.specs.Skeleton.{ArrowLeaf}

-- some value of the leaf type is stored under the physical type
abbrev pub HasStored : LeafType → Physical → Type 0
HasStored k physical = (v : Value) × (s : Value) × IsStored k physical v s

abbrev pub is_null : TypeTree → Bool
is_null t_null = true
is_null t = false

-- Where a type other than Null has a row, it allows exactly the physical types under which values of the type are stored. Null has no value.
pub record AreStoredByRows : Type 0 where
  pub rows : (l : ArrowLeaf) (row : Row) (physical : Physical) → row_of l ≡ Some row → is_null l.data_type ≡ false → (allows row.stored physical ≡ true) ↔ HasStored (leaf_type l.data_type) physical
  pub null : (physical : Physical) → HasStored (leaf_type t_null) physical → ⊥
