-- The state of an iterator over the arrays of a field, and what a call of it says.
use Rattle.std.specs.Prelude.{◌≡◌, ◌≢◌, ◌⊎◌, ◌+◌, ◌≤◌, ◌++◌, ◌∷◌, [], ℕ, List, length, map, flat_map, All, Option, Some, None, Result, Ok, Err}
use Rattle.std.specs.List.{AllZip}
use Rattle.columns_array.specs.Boxed.{boxed}
use Rattle.columns_array.specs.declared.arrays.ArrayBox.{ArrayBox}
use Rattle.columns_base.specs.declared.error.Error.{Error}
use Rattle.columns_base.specs.declared.error.Error.TheVariants.{Memory, NotYetImplemented, InvalidArgumentError}
use Rattle.columns_base.specs.declared.error.A.TheVariants.{A1, A8}
use Rattle.columns_base.specs.declared.error.N.TheVariants.{N5}
use Rattle.columns_core.specs.Measures.{field_nesting}
use Rattle.columns_core.specs.Tree.{FieldTree}
use Rattle.columns_slots.specs.Slots.{slots}
use Rattle.columns_slots.specs.Tree.{ArrayTree}
use Rattle.pq_pages.specs.Outcomes.{Outcome}
use Rattle.pq_tree.specs.Physical.{Physical}
use Rattle.pq_headline.specs.FieldReasons.{Refuses}
use Rattle.pq_headline.specs.Openings.{Opening, IsItem, Assembled, AreAlike, HaveLevels}
use Rattle.assembly.specs.Read.{IsRead}
use Rattle.read_nested.specs.Joined.{IsArrayOf}
use Rattle.read_columns.specs.Columns.{ColumnReading}
use Rattle.read_pieces.specs.Columns.{FailsAs}
use Rattle.shredding.specs.Shred.{Triple}
use Rattle.shredding.specs.Slot.{Value}
use Rattle.assembly.specs.Lanes.{Tables, AreEntries, AreReading, lanes_of}

-- The field as it was opened goes with its leaves and sources, and is read.
pub record IsOpened (o : Opening) : Type 0 where
  pub alike : AreAlike o.field o.leaves
  pub levels : HaveLevels o.leaves o.outcomes
  pub failing : All (All FailsAs) o.outcomes
  pub read : IsRead o.field o.leaves
  pub shallow : field_nesting o.field ≤ 128
  pub some : o.chunk_size ≢ Some 0

-- what an iterator keeps: the field, the readers of its columns, and how many rows are left
pub record FieldReading : Type 0 where
  pub field : FieldTree
  pub columns : List ColumnReading
  pub left : ℕ

-- An array of the field of one piece of each column: it shreds to these triples, and its dictionaries have the entries of their columns.
pub record IsMade (o : Opening) (table : List (List Triple)) (a : ArrayTree) : Type 0 where
  pub entries : List (Option (List (Option Value)))
  pub array : IsArrayOf o.field table entries a
  pub are : AreEntries (lanes_of o) entries

-- Of the field these arrays were given, each of one piece of each column, and the readers of the columns give the pieces behind them.
pub record HasGiven (o : Opening) (arrays : List ArrayTree) (it : FieldReading) : Type 0 where
  pub opened : IsOpened o
  pub field : it.field ≡ o.field
  pub tables : Tables
  pub made : AllZip (IsMade o) tables arrays
  pub reading : AreReading 0 (lanes_of o) it.columns tables
  pub left : it.left + length (flat_map slots arrays) ≡ o.rows

-- the same, shut for the crates above, which hand it on
unfoldable pub IsGiving : Opening → List ArrayTree → FieldReading → Type 0
IsGiving o arrays it = HasGiven o arrays it

-- what a field is opened with
pub record Opens (o : Opening) (f : FieldTree) (outcomes : List (List Outcome)) (physicals : List Physical) (chunk_size : Option ℕ) (rows : ℕ) : Type 0 where
  pub field : o.field ≡ f
  pub alike : AreAlike f o.leaves
  pub levels : HaveLevels o.leaves o.outcomes
  pub failing : All (All FailsAs) o.outcomes
  pub read : IsRead f o.leaves
  pub physicals_are : map (λ l. l.physical) o.leaves ≡ physicals
  pub outcomes_are : o.outcomes ≡ outcomes
  pub chunk_size_is : o.chunk_size ≡ chunk_size
  pub rows_are : o.rows ≡ rows

-- Why a field is not opened: a chunk size of no rows, or it goes with no such columns or is not read.
abbrev pub RefusesOpening : FieldTree → List (List Outcome) → List Physical → Option ℕ → ℕ → Error → Type 0
RefusesOpening f outcomes physicals chunk_size rows e =
    (e ≡ Memory)
    ⊎ ((e ≡ InvalidArgumentError A1) × (chunk_size ≡ Some 0))
    ⊎ (((e ≡ InvalidArgumentError A8) ⊎ (e ≡ NotYetImplemented N5)) × ((o : Opening) → Opens o f outcomes physicals chunk_size rows → ⊥))

-- What a call gives: an array of the next rows; or nothing, and the arrays so far are the whole field; or an error by its condition.
abbrev pub Gives : Opening → List ArrayTree → Option (Result ArrayBox Error) → FieldReading → Type 0
Gives o arrays None now = Assembled o arrays
Gives o arrays (Some (Ok a)) now = IsItem o (length (flat_map slots arrays)) (boxed a) × IsGiving o (arrays ++ boxed a ∷ []) now
Gives o arrays (Some (Err e)) now = Refuses o e
