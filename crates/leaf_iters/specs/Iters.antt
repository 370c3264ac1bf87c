-- Iterators over the pieces of a leaf's column (Dremel paper, section 4.3; Parquet format, "Column chunks").
use Rattle.std.specs.Prelude.{◌≡◌, ℕ, Bool, true, false, List, [], ◌∷◌, All, Option, Some, None, Result, Ok, Err}
use Rattle.columns_array.specs.Boxed.{boxed}
use Rattle.columns_array.specs.declared.arrays.ArrayBox.{ArrayBox}
use Rattle.columns_base.specs.declared.error.Error.{Error}
use Rattle.columns_core.specs.Shapes.{type_shape}
use Rattle.columns_core.specs.Tree.{TypeTree}
use Rattle.columns_slots.specs.Loose.{loose}
use Rattle.columns_slots.specs.Slots.{slots, type_of}
use Rattle.columns_slots.specs.Tree.{ArrayTree}
use Rattle.pq_headline.specs.Arrays.{entries_in}
use Rattle.pq_headline.specs.Columns.{ArrowColumn}
use Rattle.pq_pages.specs.Outcomes.{Outcome}
use Rattle.pq_tree.specs.Physical.{Physical}
use Rattle.pq_tree.specs.declared.types.Repetition.{Repetition}
use Rattle.pq_tree.specs.declared.types.Repetition.TheVariants.{Optional}
use Rattle.read_laws.specs.State.{Kept}
use Rattle.read_leaves.specs.Leaf.{IsLeafOpening, IsReadingLeaf, LeafReading}
use Rattle.read_pieces.specs.Columns.{ColumnOpening, GivesPiece}
use Rattle.read_pieces.specs.Pieces.{IsPieceOf}
use Rattle.read_state.specs.Initial.{IsWay}
use Rattle.read_state.specs.declared.init.InitNested.{InitNested}
use Rattle.read_state.specs.declared.init.InitNested.TheVariants.{Primitive}
use Rattle.shredding.specs.Along.{thin}
use Rattle.shredding.specs.Shape.{IsOf}
use Rattle.shredding.specs.Shred.{Triple, column}

-- The column is opened along these parts, in this type and physical type, over what a source gives, with so many rows in all and in a piece.
pub record Opens (o : ColumnOpening) (init : List InitNested) (t : TypeTree) (p : Physical) (outcomes : List Outcome) (rows : ℕ) (chunk_size : Option ℕ) : Type 0 where
  pub leaf : IsLeafOpening o t p
  pub way : IsWay init (thin o.column.way)
  pub outcomes_are : o.outcomes ≡ outcomes
  pub rows_are : o.rows ≡ rows
  pub chunk_size_is : o.chunk_size ≡ chunk_size

-- These pieces were given, and the column's reader gives those behind them. Behind the end and behind an error there is no reader.
abbrev pub IsGivingPieces : ColumnOpening → TypeTree → List (List Triple) → Option LeafReading → Type 0
IsGivingPieces o t pieces None = ⊥
IsGivingPieces o t pieces (Some r) = IsReadingLeaf o t pieces r

-- the state and the array of a piece
abbrev pub HoldsPiece : ArrowColumn → TypeTree → List Kept × ArrayBox → List Triple → Type 0
HoldsPiece c t item ts = IsPieceOf c t ts None (record { nested = item.0; values = item.1 })

-- what a call gives where these pieces were given
abbrev pub GivesItem : ColumnOpening → TypeTree → List (List Triple) → Option (Result (List Kept × ArrayBox) Error) → Option LeafReading → Type 0
GivesItem o t pieces result now = GivesPiece (λ o ps r. IsGivingPieces o t ps r) (HoldsPiece o.column t) o pieces result now

-- no reader is left behind the end and behind an error
abbrev pub IsAtEnd : {V : Type 0} → Option (Result V Error) → Option LeafReading → Type 0
IsAtEnd None now = now ≡ None
IsAtEnd (Some (Err e)) now = now ≡ None
IsAtEnd (Some (Ok v)) now = Unit {0}

-- ---- flat columns

abbrev pub is_optional : Repetition → Bool
is_optional Optional = true
is_optional r = false

-- the way of a column whose leaf is the field itself
abbrev pub flat_way : Repetition → List InitNested
flat_way r = Primitive (is_optional r) ∷ []

-- The array has this type and no dictionary, its slots are the type's where all may be null, and along the column's way they shred to these triples.
pub record IsFlatArray (c : ArrowColumn) (t : TypeTree) (ts : List Triple) (a : ArrayTree) : Type 0 where
  pub typed : type_of a ≡ t
  pub are : All (IsOf (loose (type_shape true t))) (slots a)
  pub column_is : column c.way (slots a) ≡ ts
  pub entries : entries_in a ≡ None ∷ []

-- what a call gives where these pieces of a flat column were given
abbrev pub GivesArray : ColumnOpening → TypeTree → List (List Triple) → Option (Result ArrayBox Error) → Option LeafReading → Type 0
GivesArray o t pieces result now = GivesPiece (λ o ps r. IsGivingPieces o t ps r) (λ a ts. IsFlatArray o.column t ts (boxed a)) o pieces result now

-- the array of an item, whose slots are of its type; none and errors are handed on
abbrev pub LeavesArray : Option (Result (List Kept × ArrayBox) Error) → Option (Result ArrayBox Error) → Type 0
LeavesArray None result = result ≡ None
LeavesArray (Some (Err e)) result = result ≡ Some (Err e)
LeavesArray (Some (Ok item)) result = (result ≡ Some (Ok item.1)) × All (IsOf (loose (type_shape true (type_of (boxed item.1))))) (slots (boxed item.1))
