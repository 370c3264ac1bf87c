-- A field of a row group as it is read: what its sources give, one array of it, and all of it (Dremel paper, "Record assembly").
use Rattle.std.specs.Prelude.{◌≡◌, ℕ, ◌-◌, ◌<◌, min, List, [], ◌∷◌, length, map, flat_map, All, Option, Some, None, IfSome, true}
use Rattle.std.specs.List.{AllZip}
use Rattle.shredding.specs.Shape.{HasNoEmptyStruct}
use Rattle.shredding.specs.Shred.{max_definition as way_definition, max_repetition as way_repetition}
use Rattle.shredding.specs.Slot.{Slot}
use Rattle.columns_core.specs.Shapes.{IsSlotOf, leaf_type, shape_of}
use Rattle.columns_core.specs.Tree.{FieldTree, FieldTrees, no_fields, more_fields}
use Rattle.columns_slots.specs.Slots.{slots, type_of, tree_len}
use Rattle.columns_slots.specs.Tree.{ArrayTree}
use Rattle.pq_tree.specs.Tree.{Leaf, max_definition, max_repetition}
use Rattle.pq_files.specs.Carried.{column_in}
use Rattle.pq_files.specs.Chunk.{Chunk, triples_of}
use Rattle.pq_files.specs.Page.{rows_in}
use Rattle.pq_files.specs.PageReasons.{IsOutside}
use Rattle.pq_pages.specs.Held.{HoldsChunk}
use Rattle.pq_pages.specs.Outcomes.{Levels, Outcome, IsGiven, IsOfLevels}
use Rattle.schema_fit.specs.declared.page_table.Asked.{Asked}
use Rattle.schema_fit.specs.declared.page_table.Row.{Row}
use Rattle.schema_fit.specs.PageTable.{row_of, is_allowed, allows}
use Rattle.schema_map.specs.Rows.{asked_by, HasRows as FieldHasRows}
use Rattle.pq_headline.specs.Arrays.{type_in, entries_in}
use Rattle.pq_headline.specs.Columns.{ArrowColumn, field_columns, ends_nullable}
use Rattle.pq_headline.specs.Rows.{IsColumnOf, AreAllEntries}

-- ---- a field, opened

-- the field, the leaves of its columns and what their sources give, the number of its rows, and how many rows go into an array
pub record Opening : Type 0 where
  pub field : FieldTree
  pub leaves : List Leaf
  pub outcomes : List (List Outcome)
  pub rows : ℕ
  pub chunk_size : Option ℕ

-- the leaf of a file goes with the column of a field: as many levels, and a row of the page table that allows its physical type and its nesting
pub record IsAlike (asked : Asked) (c : ArrowColumn) (l : Leaf) : Type 0 where
  pub repetition : max_repetition l ≡ way_repetition c.way
  pub definition : max_definition l ≡ way_definition c.way
  pub row : Row
  pub has_row : row_of (record { data_type = c.data_type; is_nullable = ends_nullable c.way }) ≡ Some row
  pub nests : is_allowed asked row ≡ true
  pub stored : allows row.stored l.physical ≡ true

pub record AreAlike (f : FieldTree) (ls : List Leaf) : Type 0 where
  pub are : AllZip (IsAlike (asked_by f)) (field_columns f) ls
  pub structs : HasNoEmptyStruct (shape_of f)

-- each leaf of each field is of a type whose values pages hold at its nesting, and no struct is without fields
abbrev pub CanBeWritten : FieldTrees → Type 0
CanBeWritten no_fields = Unit {0}
CanBeWritten (more_fields f fs) = FieldHasRows f × HasNoEmptyStruct (shape_of f) × CanBeWritten fs

-- the greatest levels of a leaf
abbrev pub leaf_levels : Leaf → Levels
leaf_levels l = record { repetition = max_repetition l; definition = max_definition l }

-- each source gives data pages of the levels of its leaf
abbrev pub HaveLevels : List Leaf → List (List Outcome) → Type 0
HaveLevels ls outcomes = AllZip (λ l os. All (IsOfLevels (leaf_levels l)) os) ls outcomes

-- ---- one array of it

-- so many rows go into the next array, where so many are left
abbrev pub piece_size : Option ℕ → ℕ → ℕ
piece_size None left = left
piece_size (Some n) left = min n left

-- an array of the field's type, whose slots are the field's, behind so many rows
pub record IsItem (o : Opening) (before : ℕ) (a : ArrayTree) : Type 0 where
  pub typed : type_of a ≡ type_in o.field
  pub are : All (IsSlotOf o.field) (slots a)
  pub count : tree_len a ≡ piece_size o.chunk_size (o.rows - before)
  pub some : 0 < tree_len a

-- ---- the whole field

-- The pages hold a column, to which the rows shred. The entries of its dictionary page, used or not, are values of the leaf type.
pub record HoldsColumn (rows : List Slot) (c : ArrowColumn) (l : Leaf) (outcomes : List Outcome) (got : Chunk) : Type 0 where
  pub given : All IsGiven outcomes
  pub holds : HoldsChunk l outcomes got
  pub shred : IsColumnOf rows c l (column_in got)
  pub counted : rows_in (triples_of got) ≡ length rows
  pub inside : IfSome got.entries (All (λ v. ¬ IsOutside (leaf_type c.data_type) l.physical v))

abbrev pub HoldColumns : List Slot → List ArrowColumn → List Leaf → List (List Outcome) → List Chunk → Type 0
HoldColumns rows [] [] [] [] = Unit {0}
HoldColumns rows (c ∷ cs) (l ∷ ls) (o ∷ os) (got ∷ gots) = HoldsColumn rows c l o got × HoldColumns rows cs ls os gots
HoldColumns rows _ _ _ _ = ⊥

-- The arrays so far are the whole field: their slots are its rows, and a dictionary has the entries of its chunk.
pub record Assembled (o : Opening) (arrays : List ArrayTree) : Type 0 where
  pub count : length (flat_map slots arrays) ≡ o.rows
  pub chunks : List Chunk
  pub columns : HoldColumns (flat_map slots arrays) (field_columns o.field) o.leaves o.outcomes chunks
  pub entries : All (λ a. AreAllEntries (field_columns o.field) o.leaves (map column_in chunks) (entries_in a)) arrays

-- the pages hold columns of some rows, as many as the group says
abbrev pub HasRows : Opening → Type 0
HasRows o = (rows : List Slot) × (chunks : List Chunk) × All (IsSlotOf o.field) rows × (length rows ≡ o.rows) × HoldColumns rows (field_columns o.field) o.leaves o.outcomes chunks
