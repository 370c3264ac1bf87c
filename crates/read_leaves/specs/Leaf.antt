-- A leaf's column between two calls (Parquet format, "Column chunks"; Arrow columnar format, "Physical Memory Layout").
use Rattle.std.specs.Prelude.{◌≡◌, ℕ, Bool, true, false, ◌&&◌, ◌||◌, List, [], ◌∷◌}
use Rattle.columns_core.specs.Shapes.{base}
use Rattle.columns_core.specs.Tree.{TypeTree}
use Rattle.pq_headline.specs.Columns.{is_dictionary}
use Rattle.pq_tree.specs.Physical.{Physical}
use Rattle.read_column.specs.Reading.{Reading, IsReading}
use Rattle.read_pieces.specs.Columns.{ColumnOpening, IsReadable}
use Rattle.read_types.specs.LeafTypes.{is_read, reads_nested, reads_required}
use Rattle.read_pieces.specs.Leaves.{ReadsLeaf}
use Rattle.read_state.specs.declared.init.InitNested.{InitNested}
use Rattle.read_state.specs.declared.init.InitNested.TheVariants.{Primitive}
use Rattle.read_types.specs.Reads.{types_of, stored_of, limit_of}
use Rattle.read_types.specs.declared.kind.LeafKind.{LeafKind}
use Rattle.read_walk.specs.Values.{Stored}
use Rattle.shredding.specs.Shred.{Triple}

-- the way is that of a field whose own type is a leaf's
abbrev pub is_leaf_alone : List InitNested → Bool
is_leaf_alone (Primitive n ∷ []) = true
is_leaf_alone parts = false

-- the leaf at the end of the way may be null
abbrev pub ends_optional : List InitNested → Bool
ends_optional [] = false
ends_optional (Primitive n ∷ parts) = n
ends_optional (part ∷ parts) = ends_optional parts

-- Leaves of a type, without its extensions, are read under this physical type at the end of such a way: some only where nothing is above them, some
-- only where they may be null.
abbrev pub is_read_along : List InitNested → TypeTree → Physical → Bool
is_read_along parts t p = is_read t p && ((reads_nested t || is_leaf_alone parts) && (reads_required t || ends_optional parts))

-- The column has this type without its extensions, its leaf this physical type, and it can be read wherever its values can.
pub record IsLeafOpening (o : ColumnOpening) (t : TypeTree) (p : Physical) : Type 0 where
  pub typed : o.column.data_type ≡ base t
  pub physical : o.leaf.physical ≡ p
  pub readable : (stored : List ℕ → List Stored) (limit : ℕ) → ReadsLeaf o.column o.leaf.physical stored limit → is_dictionary o.column.data_type ≡ false → IsReadable o stored limit

-- the type of the arrays, how the values are read, and the reader of the column
pub record LeafReading : Type 0 where
  pub data_type : TypeTree
  pub kind : LeafKind
  pub reader : Reading

-- The arrays have this type, the values are read as that type's, and the column's reader has given these pieces.
pub record IsReadingLeaf (o : ColumnOpening) (t : TypeTree) (pieces : List (List Triple)) (r : LeafReading) : Type 0 where
  pub typed : r.data_type ≡ t
  pub made : types_of r.kind (base t) ≡ true
  pub reads : IsReading (stored_of r.kind) (limit_of r.kind) o pieces r.reader
