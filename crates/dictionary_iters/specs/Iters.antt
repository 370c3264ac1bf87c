-- Iterators over the pieces of a column of a dictionary type (Dremel paper, section 4.3; Parquet format, "Column chunks", "Dictionary Page").
use Rattle.std.specs.Prelude.{◌≡◌, ℕ, List, Option, Some, None, Result, Ok, Err}
use Rattle.columns_array.specs.declared.arrays.ArrayBox.{ArrayBox}
use Rattle.columns_base.specs.declared.error.Error.{Error}
use Rattle.columns_core.specs.Tree.{TypeTree}
use Rattle.dictionary_leaves.specs.Dictionaries.{IsDictionaryPiece}
use Rattle.dictionary_leaves.specs.Stages.{DictionaryReading, IsReadingDictionary}
use Rattle.pq_pages.specs.Outcomes.{Outcome}
use Rattle.pq_tree.specs.Physical.{Physical}
use Rattle.read_laws.specs.State.{Kept}
use Rattle.read_pieces.specs.Columns.{ColumnOpening, GivesPiece, IsColumnOpening}
use Rattle.read_state.specs.Initial.{IsWay}
use Rattle.read_state.specs.declared.init.InitNested.{InitNested}
use Rattle.shredding.specs.Along.{thin}
use Rattle.shredding.specs.Shred.{Triple}

-- The column is opened along these parts, in this dictionary type and the physical type of its entries, over what a source gives, with so many rows in
-- all and in a piece.
pub record OpensDictionary (o : ColumnOpening) (init : List InitNested) (t : TypeTree) (p : Physical) (outcomes : List Outcome) (rows : ℕ) (chunk_size : Option ℕ) : Type 0 where
  pub dictionary : IsColumnOpening o t p
  pub way : IsWay init (thin o.column.way)
  pub outcomes_are : o.outcomes ≡ outcomes
  pub rows_are : o.rows ≡ rows
  pub chunk_size_is : o.chunk_size ≡ chunk_size

-- These pieces were given, and the column's reader gives those behind them. Behind the end and behind an error there is no reader.
abbrev pub IsGivingDictionaries : ColumnOpening → TypeTree → List (List Triple) → Option DictionaryReading → Type 0
IsGivingDictionaries o t pieces None = ⊥
IsGivingDictionaries o t pieces (Some c) = IsReadingDictionary o t pieces c

-- the state and the dictionary array of a piece
abbrev pub HoldsDictionary : ColumnOpening → TypeTree → List Kept × ArrayBox → List Triple → Type 0
HoldsDictionary o t item ts = IsDictionaryPiece o t ts (record { nested = item.0; values = item.1 })

-- what a call gives where these pieces were given
abbrev pub GivesDictionaryItem : ColumnOpening → TypeTree → List (List Triple) → Option (Result (List Kept × ArrayBox) Error) → Option DictionaryReading → Type 0
GivesDictionaryItem o t pieces result now = GivesPiece (λ x ps r. IsGivingDictionaries x t ps r) (HoldsDictionary o t) o pieces result now

-- no reader is left behind the end and behind an error
abbrev pub IsAtEnd : {V : Type 0} → Option (Result V Error) → Option DictionaryReading → Type 0
IsAtEnd None now = now ≡ None
IsAtEnd (Some (Err e)) now = now ≡ None
IsAtEnd (Some (Ok v)) now = Unit {0}
