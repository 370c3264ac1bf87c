-- The columns of a field side by side, each with its reader.
use Rattle.std.specs.Prelude.{◌≡◌, ◌⊎◌, ℕ, zero, suc, List, [], ◌∷◌, ◌++◌, map, slice_index_or, Option}
use Rattle.columns_base.specs.declared.error.Error.{Error}
use Rattle.columns_base.specs.declared.error.Error.TheVariants.{Memory}
use Rattle.columns_core.specs.Tree.{TypeTree}
use Rattle.pq_files.specs.Reasons.{AnyOf}
use Rattle.pq_pages.specs.Outcomes.{Outcome}
use Rattle.pq_tree.specs.Tree.{Leaf}
use Rattle.shredding.specs.Shred.{Triple}
use Rattle.shredding.specs.Slot.{Value}
use Rattle.pq_headline.specs.Columns.{ArrowColumn, field_columns}
use Rattle.pq_headline.specs.Openings.{Opening}
use Rattle.read_columns.specs.Columns.{AreEntriesOf, ColumnReading, IsColumnPiece, IsReadingColumn}
use Rattle.read_pieces.specs.Columns.{ColumnOpening, IsNextPiece, IsWhole, RefusesPiece, rows_of_all}
use Rattle.read_pieces.specs.Pieces.{leaf_types}
use Rattle.read_pieces.specs.declared.piece.ColumnPiece.{ColumnPiece}

-- a column as it is read, and the type of its leaf
pub record Lane : Type 0 where
  pub opening : ColumnOpening
  pub type : TypeTree

abbrev pub lane : ℕ → Option ℕ → ArrowColumn → TypeTree → Leaf → List Outcome → Lane
lane rows n c t l os = record { opening = record { column = c; leaf = l; outcomes = os; rows = rows; chunk_size = n }; type = t }

-- one for each column, its leaf type, its leaf and what its source gives
abbrev pub lanes : ℕ → Option ℕ → List ArrowColumn → List TypeTree → List Leaf → List (List Outcome) → List Lane
lanes rows n (c ∷ cs) (t ∷ types) (l ∷ ls) (os ∷ others) = lane rows n c t l os ∷ lanes rows n cs types ls others
lanes rows n _ _ _ _ = []

abbrev pub lanes_of : Opening → List Lane
lanes_of o = lanes o.rows o.chunk_size (field_columns o.field) (leaf_types o.field) o.leaves o.outcomes

-- what was read of all columns so far: for each array the triples of each column
abbrev pub Tables : Type 0
Tables = List (List (List Triple))

-- the triples of one column
abbrev pub pieces_at : ℕ → Tables → List (List Triple)
pieces_at i tables = map (λ table. slice_index_or table i []) tables

-- each reader has given the pieces of its column
abbrev pub AreReading : ℕ → List Lane → List ColumnReading → Tables → Type 0
AreReading i [] [] tables = Unit {0}
AreReading i (x ∷ xs) (r ∷ rs) tables = IsReadingColumn x.opening x.type (pieces_at i tables) r × AreReading (suc i) xs rs tables
AreReading i _ _ tables = ⊥

-- the first ones have given a piece more, behind so many rows
abbrev pub AreStepped : ℕ → ℕ → List Lane → List ColumnReading → List ColumnPiece → List (List Triple) → Tables → Type 0
AreStepped i before xs rs [] [] tables = AreReading i xs rs tables
AreStepped i before (x ∷ xs) (r ∷ rs) (p ∷ ps) (ts ∷ table) tables =
    IsNextPiece x.opening before ts × IsColumnPiece x.opening x.type ts p × IsReadingColumn x.opening x.type (pieces_at i tables ++ ts ∷ []) r × AreStepped (suc i) before xs rs ps table tables
AreStepped i before _ _ _ _ tables = ⊥

-- the first ones, so many, have ended
abbrev pub AreEnded : ℕ → ℕ → List Lane → List ColumnReading → Tables → Type 0
AreEnded i zero xs rs tables = AreReading i xs rs tables
AreEnded i (suc k) (x ∷ xs) (r ∷ rs) tables = IsWhole x.opening (pieces_at i tables) × AreEnded (suc i) k xs rs tables
AreEnded i (suc k) _ _ tables = ⊥

-- each column is whole
abbrev pub AreWhole : ℕ → List Lane → Tables → Type 0
AreWhole i [] tables = Unit {0}
AreWhole i (x ∷ xs) tables = IsWhole x.opening (pieces_at i tables) × AreWhole (suc i) xs tables

-- the next piece of each
abbrev pub AreNext : ℕ → List Lane → List (List Triple) → Type 0
AreNext before [] [] = Unit {0}
AreNext before (x ∷ xs) (ts ∷ table) = IsNextPiece x.opening before ts × AreNext before xs table
AreNext before _ _ = ⊥

abbrev pub ArePieces : List Lane → List (List Triple) → List ColumnPiece → Type 0
ArePieces [] [] [] = Unit {0}
ArePieces (x ∷ xs) (ts ∷ table) (p ∷ ps) = IsColumnPiece x.opening x.type ts p × ArePieces xs table ps
ArePieces _ _ _ = ⊥

-- of each column its entries, or none
abbrev pub AreEntries : List Lane → List (Option (List (Option Value))) → Type 0
AreEntries [] [] = Unit {0}
AreEntries (x ∷ xs) (e ∷ es) = AreEntriesOf x.opening e × AreEntries xs es
AreEntries _ _ = ⊥

-- of each column so many rows were read, and there are so many
abbrev pub AreBehind : ℕ → ℕ → ℕ → List Lane → Tables → Type 0
AreBehind i before rows [] tables = Unit {0}
AreBehind i before rows (x ∷ xs) tables = (rows_of_all (pieces_at i tables) ≡ before) × (x.opening.rows ≡ rows) × AreBehind (suc i) before rows xs tables

-- a piece of each column was taken
pub record TakesPieces (before : ℕ) (xs : List Lane) (tables : Tables) (pieces : List ColumnPiece) (rs : List ColumnReading) : Type 0 where
  pub table : List (List Triple)
  pub next : AreNext before xs table
  pub are : ArePieces xs table pieces
  pub reading : AreReading 0 xs rs (tables ++ table ∷ [])

-- a column is refused
abbrev pub AnyRefused : List Lane → Error → Type 0
AnyRefused xs e = (e ≡ Memory) ⊎ AnyOf (λ x. RefusesPiece x.opening e) xs
