-- A column of any type that is read, between two calls (Parquet format, "Column chunks"; Arrow columnar format, "Physical Memory Layout").
use Rattle.std.specs.Prelude.{◌≡◌, ◌⊎◌, Bool, true, false, List, map, Option, Some, None}
use Rattle.std.proofs.Common.{inl, inr}
use Rattle.columns_core.specs.Tree.{TypeTree, t_dictionary}
use Rattle.dictionary_leaves.specs.Dictionaries.{HasDictionary, is_dictionary_read}
use Rattle.dictionary_leaves.specs.Stages.{DictionaryReading, IsReadingDictionary}
use Rattle.pq_headline.specs.Columns.{is_dictionary}
use Rattle.pq_tree.specs.Physical.{Physical}
use Rattle.read_leaves.specs.Leaf.{IsReadingLeaf, LeafReading, is_read_along}
use Rattle.read_pieces.specs.Columns.{ColumnOpening}
use Rattle.read_pieces.specs.Pieces.{IsPieceOf}
use Rattle.read_pieces.specs.declared.piece.ColumnPiece.{ColumnPiece}
use Rattle.read_state.specs.declared.init.InitNested.{InitNested}
use Rattle.shredding.specs.Shred.{Triple}
use Rattle.shredding.specs.Slot.{Value}

-- ---- the types that are read

-- A column of a type, without its extensions, is read under this physical type at the end of such a way: of a dictionary type by its entries.
abbrev pub is_column_read : List InitNested → TypeTree → Physical → Bool
is_column_read parts (t_dictionary key t is_sorted) p = is_dictionary_read parts (t_dictionary key t is_sorted) p
is_column_read parts t p = is_read_along parts t p

-- ---- a reader

-- what the reader of a column keeps: that of a leaf's, or that of a dictionary's
abbrev pub ColumnReading : Type 0
ColumnReading = LeafReading ⊎ DictionaryReading

-- The arrays have this type, and these pieces were given.
unfoldable pub IsReadingColumn : ColumnOpening → TypeTree → List (List Triple) → ColumnReading → Type 0
IsReadingColumn o t pieces (inl r) = IsReadingLeaf o t pieces r
IsReadingColumn o t pieces (inr r) = IsReadingDictionary o t pieces r

-- ---- its pieces

-- The entries of the arrays of a column: of a dictionary type those of the dictionary page, of another type none.
abbrev pub AreEntriesOf : ColumnOpening → Option (List (Option Value)) → Type 0
AreEntriesOf o None = is_dictionary o.column.data_type ≡ false
AreEntriesOf o (Some es) = (is_dictionary o.column.data_type ≡ true) × ((vs : List Value) × (es ≡ map Some vs) × HasDictionary o vs)

-- a piece of the column, and the array of its leaf, which has this type and these entries
pub record IsColumnPiece (o : ColumnOpening) (t : TypeTree) (ts : List Triple) (p : ColumnPiece) : Type 0 where
  pub entries : Option (List (Option Value))
  pub piece : IsPieceOf o.column t ts entries p
  pub are : AreEntriesOf o entries
