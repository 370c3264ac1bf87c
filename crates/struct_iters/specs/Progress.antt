-- Columns that are read side by side, piece by piece (Dremel paper, section 4.3; Parquet format, "Column chunks").
use Rattle.std.specs.Prelude.{◌≡◌, List, [], ◌∷◌, ◌++◌, Option, Some, None, Result, Ok, Err}
use Rattle.columns_base.specs.declared.error.Error.{Error}
use Rattle.columns_core.specs.Tree.{TypeTree}
use Rattle.read_columns.specs.Columns.{AreEntriesOf, ColumnReading, IsColumnPiece, IsReadingColumn}
use Rattle.read_pieces.specs.Columns.{ColumnOpening, IsNextPiece, IsWhole, RefusesPiece, rows_of_all}
use Rattle.read_pieces.specs.declared.piece.ColumnPiece.{ColumnPiece}
use Rattle.shredding.specs.Shred.{Triple}
use Rattle.shredding.specs.Slot.{Value}

-- how far a column was read: the column, the type of its leaf, and the triples of the pieces that were given
pub record Progress : Type 0 where
  pub opening : ColumnOpening
  pub type : TypeTree
  pub given : List (List Triple)

-- The column's reader gives the pieces behind them. Where there is none, they are the whole column.
abbrev pub IsAt : Progress → Option ColumnReading → Type 0
IsAt x None = IsWhole x.opening x.given
IsAt x (Some r) = IsReadingColumn x.opening x.type x.given r

abbrev pub AreAt : List Progress → List (Option ColumnReading) → Type 0
AreAt [] [] = Unit {0}
AreAt (x ∷ xs) (r ∷ rs) = IsAt x r × AreAt xs rs
AreAt _ _ = ⊥

-- a piece was given more
abbrev pub further : Progress → List Triple → Progress
further x ts = record { opening = x.opening; type = x.type; given = x.given ++ ts ∷ [] }

-- of each column
abbrev pub all_further : List Progress → List (List Triple) → List Progress
all_further (x ∷ xs) (ts ∷ table) = further x ts ∷ all_further xs table
all_further _ _ = []

-- What one call for a piece gives: none, and those given are the whole column, whose reader is gone; one more; or an error by its condition.
abbrev pub GivesNext : Progress → Option (Result ColumnPiece Error) → Option ColumnReading → Type 0
GivesNext x None now = IsWhole x.opening x.given × (now ≡ None)
GivesNext x (Some (Ok p)) now = (ts : List Triple) × IsNextPiece x.opening (rows_of_all x.given) ts × IsColumnPiece x.opening x.type ts p × IsAt (further x ts) now
GivesNext x (Some (Err e)) now = RefusesPiece x.opening e

-- the next piece of each
abbrev pub AreNext : List Progress → List (List Triple) → Type 0
AreNext [] [] = Unit {0}
AreNext (x ∷ xs) (ts ∷ table) = IsNextPiece x.opening (rows_of_all x.given) ts × AreNext xs table
AreNext _ _ = ⊥

-- of each column the entries of its dictionary, or none
abbrev pub AreEntries : List Progress → List (Option (List (Option Value))) → Type 0
AreEntries [] [] = Unit {0}
AreEntries (x ∷ xs) (e ∷ es) = AreEntriesOf x.opening e × AreEntries xs es
AreEntries _ _ = ⊥

-- each column is whole
abbrev pub AreWhole : List Progress → Type 0
AreWhole [] = Unit {0}
AreWhole (x ∷ xs) = IsWhole x.opening x.given × AreWhole xs

-- no reader is left
abbrev pub AreGone : List (Option ColumnReading) → Type 0
AreGone [] = Unit {0}
AreGone (r ∷ rs) = (r ≡ None) × AreGone rs

-- The first ones were asked for a piece, and each has given one, whose triples these are, or has ended. The pieces stand in order.
abbrev pub AreTaken : List (Option (List Triple)) → List Progress → List (Option ColumnReading) → List ColumnPiece → Type 0
AreTaken [] xs rs ps = (ps ≡ []) × AreAt xs rs
AreTaken (None ∷ took) (x ∷ xs) (r ∷ rs) ps = IsWhole x.opening x.given × (r ≡ None) × AreTaken took xs rs ps
AreTaken (Some ts ∷ took) (x ∷ xs) (r ∷ rs) (p ∷ ps) = IsNextPiece x.opening (rows_of_all x.given) ts × IsColumnPiece x.opening x.type ts p × IsAt (further x ts) r × AreTaken took xs rs ps
AreTaken _ _ _ _ = ⊥
