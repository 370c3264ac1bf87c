-- The column of a dictionary by the column of its keys: what is read of the one is read of the other (Parquet format, "Dictionary Page"; Encodings,
-- "Dictionary Encoding").
use Rattle.std.specs.Prelude.{◌≡◌, ℕ, ◌≤◌, true, List, [], ◌∷◌, ◌++◌, length, map, All}
use Rattle.std.specs.List.{AllZip}
use Rattle.columns_base.specs.declared.error.Error.{Error}
use Rattle.columns_core.specs.Shapes.{leaf_type}
use Rattle.columns_core.specs.declared.types.IntegerType.{IntegerType}
use Rattle.pq_files.specs.Plain.{InARow}
use Rattle.pq_files.specs.Stored.{IsStored}
use Rattle.pq_headline.specs.Columns.{is_dictionary}
use Rattle.pq_headline.specs.FieldReasons.{IsOfRows, key_room}
use Rattle.pq_headline.specs.Openings.{leaf_levels}
use Rattle.pq_pages.specs.Held.{AreEntriesIn}
use Rattle.pq_pages.specs.Outcomes.{IsGiven, IsOfLevels, Outcome, gives_dictionary}
use Rattle.pq_tree.specs.Physical.{boolean}
use Rattle.pq_tree.specs.Tree.{max_definition}
use Rattle.read_column.specs.Foreseen.{foreseen}
use Rattle.read_column.specs.Reading.{IsReading, Reading}
use Rattle.read_pieces.specs.Columns.{AreColumnRows, ColumnOpening, IsNextPiece, IsWhole, RefusesPiece, rows_of_all}
use Rattle.read_laws.specs.State.{Kept}
use Rattle.read_pieces.specs.Pieces.{IsPiece}
use Rattle.read_walk.specs.Values.{Stored}
use Rattle.shredding.specs.Shape.{Way}
use Rattle.shredding.specs.Shred.{Triple, max_definition as way_definition}
use Rattle.shredding.specs.Slot.{Slot, Value}
use Rattle.dictionary_columns.specs.Columns.{key_opening}
use Rattle.dictionary_columns.specs.Keys.{AreEntryKeys, entered, found, key_physical, stored_keys}

-- The column has levels as its way has, and its source begins with a dictionary page in this body, and gives these outcomes behind it. The page's
-- entries are stored so, and are these values of the column's type; they are not more than its keys count. The keys of as many stand in this text.
pub record HasKeys (key : IntegerType) (o : ColumnOpening) (body text : List ℕ) (os : List Outcome) (vs es : List Value) : Type 0 where
  pub typed : is_dictionary o.column.data_type ≡ true
  pub some : o.leaf.physical ≡ boolean → ⊥
  pub definition : max_definition o.leaf ≡ way_definition o.column.way
  pub outcomes : o.outcomes ≡ gives_dictionary (length vs) body ∷ os
  pub own : AreEntriesIn o.leaf (length vs) body es
  pub stored : AllZip (IsStored (leaf_type o.column.data_type) o.leaf.physical) vs es
  pub few : length vs ≤ key_room key
  pub keys : InARow (key_physical key) text (stored_keys key 0 (length vs))

-- the column of the keys
abbrev pub keys_of_column : IntegerType → List ℕ → List Outcome → List Value → ColumnOpening → ColumnOpening
keys_of_column key text os vs o = key_opening key (length vs) text os o

-- pieces with the entries in the place of the keys
abbrev pub entered_all : List Value → List (List Triple) → List (List Triple)
entered_all vs pieces = map (entered vs) pieces

-- the next piece of the keys is that of the column, and each of its keys numbers an entry
abbrev pub PiecesAreEntered : Type 0
PiecesAreEntered =
    (stored : List ℕ → List Stored) (limit : ℕ) (key : IntegerType) (o : ColumnOpening) (body text : List ℕ) (os : List Outcome) (vs es : List Value) (pieces : List (List Triple)) (ts : List Triple) (now : Reading) →
    HasKeys key o body text os vs es → IsNextPiece (keys_of_column key text os vs o) (rows_of_all pieces) ts → IsReading stored limit (keys_of_column key text os vs o) (pieces ++ ts ∷ []) now →
    IsNextPiece o (rows_of_all (entered_all vs pieces)) (entered vs ts) × AreEntryKeys (length vs) ts

-- a state and slots of keys that stand for them stand for the column's piece, with the entries in the place of the keys
abbrev pub StatesAreEntered : Type 0
StatesAreEntered = (w : Way) (vs : List Value) (ts : List Triple) (ks : List Kept) (leaf : List Slot) → AreEntryKeys (length vs) ts → IsPiece w ts ks leaf → IsPiece w (entered vs ts) ks (map (found vs) leaf)

-- all pieces of the keys are all of the column
abbrev pub WholeIsEntered : Type 0
WholeIsEntered =
    (key : IntegerType) (o : ColumnOpening) (body text : List ℕ) (os : List Outcome) (vs es : List Value) (pieces : List (List Triple)) → HasKeys key o body text os vs es → IsWhole (keys_of_column key text os vs o) pieces → IsWhole o (entered_all vs pieces)

-- the same outcomes but that others stand in the place of the first error, of the keys' column
abbrev pub before_others : ColumnOpening → List Outcome → ColumnOpening
before_others o others = record { column = o.column; leaf = o.leaf; outcomes = foreseen o.outcomes others; rows = o.rows; chunk_size = o.chunk_size }

-- Where the pages hold rows of the column, pages could follow behind those of the keys that are read, so that they hold as many.
pub record CouldBe (o keys : ColumnOpening) : Type 0 where
  pub others : List Outcome
  pub given : All IsGiven others
  pub of_levels : All (IsOfLevels (leaf_levels o.leaf)) others
  pub rows : List Slot
  pub are : AreColumnRows (before_others keys others) rows

abbrev pub RowsCouldBe : Type 0
RowsCouldBe = (key : IntegerType) (o : ColumnOpening) (body text : List ℕ) (os : List Outcome) (vs es : List Value) (rows : List Slot) → HasKeys key o body text os vs es → AreColumnRows o rows → CouldBe o (keys_of_column key text os vs o)

-- An error for which no piece of the keys comes is one for which none of the column does: of those that speak of rows it is known that there are none.
abbrev pub RefusalsAreEntered : Type 0
RefusalsAreEntered =
    (key : IntegerType) (o : ColumnOpening) (body text : List ℕ) (os : List Outcome) (vs es : List Value) (e : Error) → HasKeys key o body text os vs es → (IsOfRows e → (rows : List Slot) → AreColumnRows o rows → ⊥) → RefusesPiece (keys_of_column key text os vs o) e → RefusesPiece o e
