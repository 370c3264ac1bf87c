-- What the reader of a column of a dictionary type keeps, and how far its column was read.
use Rattle.std.specs.Prelude.{◌≡◌, ◌⊎◌, ℕ, List, [], Option, Some, None}
use Rattle.std.proofs.Common.{inl, inr}
use Rattle.columns_array.specs.Boxed.{boxed}
use Rattle.columns_core.specs.Tree.{TypeTree}
use Rattle.columns_core.specs.declared.types.IntegerType.{IntegerType}
use Rattle.columns_slots.specs.Tree.{ArrayTree}
use Rattle.pq_pages.specs.Outcomes.{Outcome}
use Rattle.read_column.specs.Reading.{Reading}
use Rattle.read_pieces.specs.Columns.{ColumnOpening}
use Rattle.read_state.specs.declared.init.InitNested.{InitNested}
use Rattle.shredding.specs.Shred.{Triple}
use Rattle.dictionary_leaves.specs.Dictionaries.{IsOpenDictionary, IsUnreadDictionary}
use Rattle.dictionary_leaves.specs.EntryTypes.{EntryReading}
use Rattle.dictionary_leaves.specs.KeyColumns.{key_in, reader_in}
use Rattle.dictionary_leaves.specs.declared.column.Stage.{Stage}
use Rattle.dictionary_leaves.specs.declared.column.Stage.TheVariants as S

-- a column of which no page was read: what its source gives, the parts of the way to its leaf, and how its rows are read
pub record UnreadColumn : Type 0 where
  pub outcomes : List Outcome
  pub parts : List InitNested
  pub chunk_size : Option ℕ
  pub rows : ℕ

-- a column whose entries were read: the type of its keys, the reader of their column, and the entries
pub record OpenColumn : Type 0 where
  pub key : IntegerType
  pub keys : Reading
  pub entries : ArrayTree

-- none behind an error and the end
abbrev pub StageReading : Type 0
StageReading = Option (UnreadColumn ⊎ OpenColumn)

abbrev pub stage_view : {I : Type 0} → (I → List Outcome) → Stage I → StageReading
stage_view outcomes (S.Ahead u) = Some (inl (record { outcomes = outcomes u.pages; parts = u.nested.items; chunk_size = u.chunk_size; rows = u.num_rows }))
stage_view outcomes (S.Open v) = Some (inr (record { key = key_in v.keys; keys = reader_in v.keys; entries = boxed v.entries }))
stage_view outcomes S.Ended = None

-- the type of the arrays, how entries are read, and the stage
pub record DictionaryReading : Type 0 where
  pub data_type : TypeTree
  pub entries : EntryReading
  pub stage : StageReading

-- no page was read, or the entries were; behind an error and the end nothing is said
abbrev pub IsAtStage : ColumnOpening → TypeTree → EntryReading → List (List Triple) → StageReading → Type 0
IsAtStage o t e pieces (Some (inl u)) = (pieces ≡ []) × IsUnreadDictionary o t e u.outcomes u.parts u.chunk_size u.rows
IsAtStage o t e pieces (Some (inr v)) = IsOpenDictionary o t pieces v.key v.keys v.entries
IsAtStage o t e pieces None = ⊥

-- The arrays have this dictionary type, and these pieces were given.
pub record IsReadingDictionary (o : ColumnOpening) (t : TypeTree) (pieces : List (List Triple)) (c : DictionaryReading) : Type 0 where
  pub typed : c.data_type ≡ t
  pub stage : IsAtStage o t c.entries pieces c.stage
