-- The columns of a field as they are opened.
use Rattle.std.specs.Prelude.{◌≡◌, ◌⊎◌, ℕ, false, List, [], ◌∷◌, Option}
use Rattle.columns_base.specs.declared.error.Error.{Error}
use Rattle.columns_base.specs.declared.error.Error.TheVariants.{NotYetImplemented}
use Rattle.columns_base.specs.declared.error.N.TheVariants.{N5}
use Rattle.columns_core.specs.Shapes.{base}
use Rattle.pq_pages.specs.Outcomes.{Outcome}
use Rattle.pq_tree.specs.Physical.{Physical}
use Rattle.pq_tree.specs.Views.{physical_view}
use Rattle.pq_tree.specs.declared.types.PrimitiveType.{PrimitiveType}
use Rattle.read_columns.specs.Columns.{is_column_read}
use Rattle.read_pieces.specs.Columns.{IsColumnOpening}
use Rattle.read_state.specs.Initial.{IsWay}
use Rattle.shredding.specs.Along.{thin}
use Rattle.assembly.specs.Lanes.{Lane}
use Rattle.assembly.specs.Paths.{Path}

-- the physical type of a leaf
abbrev pub physical_in : PrimitiveType → Physical
physical_in t = physical_view t.physical_type

-- a column is opened with this path, source and physical type, and with so many rows in a piece and in all
pub record IsOpen (n : Option ℕ) (rows : ℕ) (x : Lane) (path : Path) (outcomes : List Outcome) (p : Physical) : Type 0 where
  pub type : path.1 ≡ x.type
  pub column : IsColumnOpening x.opening x.type p
  pub way : IsWay path.0 (thin x.opening.column.way)
  pub outcomes_are : x.opening.outcomes ≡ outcomes
  pub rows_are : x.opening.rows ≡ rows
  pub chunk_size_is : x.opening.chunk_size ≡ n

-- each is with those at its place
abbrev pub AreOpen : Option ℕ → ℕ → List Lane → List Path → List (List Outcome) → List Physical → Type 0
AreOpen n rows [] [] [] [] = Unit {0}
AreOpen n rows (x ∷ xs) (path ∷ paths) (os ∷ others) (p ∷ ps) = IsOpen n rows x path os p × AreOpen n rows xs paths others ps
AreOpen n rows _ _ _ _ = ⊥

-- the values of a leaf, or the entries of its dictionary, are not read under its physical type, or not at the end of its way
abbrev pub IsNotRead : Path → Physical → Error → Type 0
IsNotRead path p e = (e ≡ NotYetImplemented N5) × (is_column_read path.0 (base path.1) p ≡ false)

-- those of one of them are not
abbrev pub SomeIsNotRead : List Path → List Physical → Error → Type 0
SomeIsNotRead (path ∷ paths) (p ∷ ps) e = IsNotRead path p e ⊎ SomeIsNotRead paths ps e
SomeIsNotRead _ _ e = ⊥
