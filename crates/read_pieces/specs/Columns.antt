-- A column of a row group as it is read, piece by piece (Dremel paper, section 4.3; Parquet format, "Column chunks", "Data Pages").
use Rattle.std.specs.Prelude.{◌≡◌, ◌≢◌, ◌⊎◌, ℕ, ◌-◌, ◌<◌, ◌≤◌, false, List, [], ◌∷◌, ◌++◌, map, length, take, drop, sum_by, flat_map, All, Option, Some, None, IfSome, Result, Ok, Err}
use Rattle.columns_base.specs.declared.error.Error.{Error}
use Rattle.columns_base.specs.declared.error.Error.TheVariants.{Memory, OutOfSpec, NotYetImplemented, Overflow}
use Rattle.columns_base.specs.declared.error.S.TheVariants.{S3}
use Rattle.columns_base.specs.declared.error.N.TheVariants.{N4, N8}
use Rattle.columns_base.specs.declared.error.V.TheVariants.{V1, V2}
use Rattle.shredding.specs.Along.{IsAlong}
use Rattle.shredding.specs.Shred.{Triple, column, max_definition as way_definition, max_repetition as way_repetition}
use Rattle.shredding.specs.Slot.{Slot, Value}
use Rattle.columns_core.specs.Shapes.{base, leaf_type}
use Rattle.columns_core.specs.Tree.{TypeTree}
use Rattle.pq_tree.specs.Physical.{Physical}
use Rattle.pq_tree.specs.Tree.{Leaf, max_definition, max_repetition}
use Rattle.pq_files.specs.Chunk.{Chunk, triples_of}
use Rattle.pq_files.specs.Page.{rows_in}
use Rattle.pq_files.specs.PageReasons.{IsOutside}
use Rattle.pq_files.specs.Reasons.{AnyOf}
use Rattle.pq_files.specs.Stored.{AreStored}
use Rattle.pq_pages.specs.Held.{HoldsChunk}
use Rattle.pq_pages.specs.Outcomes.{Outcome, fails, IsGiven, IsOfLevels}
use Rattle.read_laws.specs.State.{Kept}
use Rattle.read_walk.specs.Values.{Stored}
use Rattle.pq_headline.specs.Columns.{ArrowColumn, is_dictionary, large_limit}
use Rattle.pq_headline.specs.FieldReasons.{IsOfRows, HasMisplaced, HasN4Page, HasN8, HasV1, ReadsColumn, IsPieceOf, SomeV2}
use Rattle.pq_headline.specs.Openings.{leaf_levels, piece_size, HoldsColumn}
use Rattle.read_pieces.specs.Leaves.{ReadsLeaf}
use Rattle.read_pieces.specs.Pieces.{IsPiece}

-- ---- a column, opened

-- the column, the leaf of the file, what its source gives, the number of its rows, and how many rows go into a piece
pub record ColumnOpening : Type 0 where
  pub column : ArrowColumn
  pub leaf : Leaf
  pub outcomes : List Outcome
  pub rows : ℕ
  pub chunk_size : Option ℕ

-- an error of a source: its pages are wrong, or not read yet
abbrev pub FailsAs : Outcome → Type 0
FailsAs (fails e) = (e ≡ OutOfSpec S3) ⊎ (e ≡ NotYetImplemented N4)
FailsAs o = Unit {0}

-- The leaf has the levels of the column's way, the source gives pages of these levels or fails as sources do, the values are read so and have no
-- dictionary, each list has offsets of at most 64 bits, and pieces have rows.
pub record IsReadable (o : ColumnOpening) (stored : List ℕ → List Stored) (limit : ℕ) : Type 0 where
  pub repetition : max_repetition o.leaf ≡ way_repetition o.column.way
  pub definition : max_definition o.leaf ≡ way_definition o.column.way
  pub levels : All (IsOfLevels (leaf_levels o.leaf)) o.outcomes
  pub failing : All FailsAs o.outcomes
  pub values : ReadsLeaf o.column o.leaf.physical stored limit
  pub direct : is_dictionary o.column.data_type ≡ false
  pub lists : length o.column.limits ≡ way_repetition o.column.way
  pub limited : All (λ n. n ≤ large_limit) o.column.limits
  pub some : o.chunk_size ≢ Some 0

-- The column has this type without its extensions, its leaf this physical type and the levels of the column's way, the source gives pages of these
-- levels or fails as sources do, each list has offsets of at most 64 bits, and pieces have rows.
pub record IsColumnOpening (o : ColumnOpening) (t : TypeTree) (p : Physical) : Type 0 where
  pub typed : o.column.data_type ≡ base t
  pub physical : o.leaf.physical ≡ p
  pub repetition : max_repetition o.leaf ≡ way_repetition o.column.way
  pub definition : max_definition o.leaf ≡ way_definition o.column.way
  pub levels : All (IsOfLevels (leaf_levels o.leaf)) o.outcomes
  pub failing : All FailsAs o.outcomes
  pub lists : length o.column.limits ≡ way_repetition o.column.way
  pub limited : All (λ n. n ≤ large_limit) o.column.limits
  pub some : o.chunk_size ≢ Some 0

-- ---- its pieces

abbrev pub rows_of_all : List (List Triple) → ℕ
rows_of_all pieces = sum_by rows_in pieces

-- rows along the column's way, as many as the group has, to which the pages shred
pub record AreColumnRows (o : ColumnOpening) (rows : List Slot) : Type 0 where
  pub along : All (IsAlong o.column.way) rows
  pub count : length rows ≡ o.rows
  pub chunk : Chunk
  pub holds : HoldsColumn rows o.column o.leaf o.outcomes chunk

-- The triples of the next rows behind so many: as many rows as go into a piece. As they are stored, they are a part of what can be read of the
-- column. If the pages hold rows, they are the column of these rows among them.
pub record IsNextPiece (o : ColumnOpening) (before : ℕ) (ts : List Triple) : Type 0 where
  pub count : rows_in ts ≡ piece_size o.chunk_size (o.rows - before)
  pub some : 0 < rows_in ts
  pub entries : Option (List Value)
  pub triples : List Triple
  pub reads : ReadsColumn o.column o.leaf o.outcomes entries triples
  pub stored : List Triple
  pub are : AreStored (leaf_type o.column.data_type) o.leaf.physical ts stored
  pub part : IsPieceOf o.chunk_size triples stored
  pub only : (rows : List Slot) → AreColumnRows o rows → ts ≡ column o.column.way (take (rows_in ts) (drop before rows))

-- The pieces are the whole column: the pages hold it, each entry of a dictionary is a value of the leaf type, and it has the rows of the group.
pub record IsWhole (o : ColumnOpening) (pieces : List (List Triple)) : Type 0 where
  pub given : All IsGiven o.outcomes
  pub chunk : Chunk
  pub holds : HoldsChunk o.leaf o.outcomes chunk
  pub stored : AreStored (leaf_type o.column.data_type) o.leaf.physical (flat_map (λ ts. ts) pieces) (triples_of chunk)
  pub inside : IfSome chunk.entries (All (λ v. ¬ IsOutside (leaf_type o.column.data_type) o.leaf.physical v))
  pub counted : rows_of_all pieces ≡ o.rows

-- ---- why no piece comes

-- Its arrays pass their offsets, or its dictionary the keys.
abbrev pub HasTooMany : ColumnOpening → Error → Type 0
HasTooMany o e = ((e ≡ Overflow V1) × HasV1 o.chunk_size o.column o.leaf o.outcomes) ⊎ ((e ≡ Overflow V2) × SomeV2 (o.column ∷ []) (o.outcomes ∷ []))

-- Want of memory is free. Of the others each comes only so.
abbrev pub RefusesPiece : ColumnOpening → Error → Type 0
RefusesPiece o e =
    (e ≡ Memory)
    ⊎ (((e ≡ OutOfSpec S3) ⊎ (e ≡ NotYetImplemented N4)) × AnyOf (λ x. x ≡ fails e) o.outcomes)
    ⊎ ((e ≡ OutOfSpec S3) × HasMisplaced o.outcomes)
    ⊎ ((e ≡ NotYetImplemented N4) × AnyOf (HasN4Page o.column o.leaf) o.outcomes)
    ⊎ ((e ≡ NotYetImplemented N8) × HasN8 o.leaf o.outcomes)
    ⊎ HasTooMany o e
    ⊎ (IsOfRows e × ((rows : List Slot) → AreColumnRows o rows → ⊥))

-- ---- one call

-- What a call for the next piece gives, where so many were given: one more; none, and those given are the whole column; or an error by its
-- condition. Reading says what is still to come.
abbrev pub GivesPiece : {R V : Type 0} → (ColumnOpening → List (List Triple) → R → Type 0) → (V → List Triple → Type 0) → ColumnOpening → List (List Triple) → Option (Result V Error) → R → Type 0
GivesPiece Reading Holds o pieces None now = IsWhole o pieces
GivesPiece Reading Holds o pieces (Some (Ok v)) now = (ts : List Triple) × IsNextPiece o (rows_of_all pieces) ts × Holds v ts × Reading o (pieces ++ ts ∷ []) now
GivesPiece Reading Holds o pieces (Some (Err e)) now = RefusesPiece o e
