-- Which rows a group of a file holds under a schema.
use Rattle.std.specs.Prelude.{ℕ, suc, List, [], ◌∷◌, map, All, Option, Some, None, Bool, true, false}
use Rattle.std.specs.List.{AllZip}
use Rattle.shredding.specs.Shape.{AreOf}
use Rattle.shredding.specs.Shred.{column}
use Rattle.shredding.specs.Slot.{Slot, fields, Slots, slot_at, Value}
use Rattle.columns_core.specs.Shapes.{shapes_of, leaf_type}
use Rattle.columns_core.specs.Tree.{TypeTree, field, FieldTrees, no_fields, more_fields}
use Rattle.pq_metadata.specs.Footer.{GroupMeta}
use Rattle.pq_tree.specs.Physical.{Physical}
use Rattle.pq_tree.specs.Tree.{Leaf}
use Rattle.pq_files.specs.Carried.{Column, GroupPages, IsGroup, column_in}
use Rattle.pq_files.specs.Stored.{IsStored, AreStored}
use Rattle.pq_headline.specs.Columns.{ArrowColumn, schema_columns, is_dictionary}
use Rattle.pq_headline.specs.Lists.{AllZip3}

-- the slots of a field: one of each row
abbrev pub field_slots : ℕ → List Slots → List Slot
field_slots place rows = map (λ row. slot_at row place) rows

-- The slots shred to the column, each value stored as the leaf's physical type has it.
abbrev pub IsColumnOf : List Slot → ArrowColumn → Leaf → Column → Type 0
IsColumnOf rows c l got = AreStored (leaf_type c.data_type) l.physical (column c.way rows) got.triples

-- Rows of the schema shred to all the columns.
pub record AreRowsOf (fs : FieldTrees) (ls : List Leaf) (columns : List Column) (rows : List Slots) : Type 0 where
  pub are : All (AreOf (shapes_of fs)) rows
  pub shred : AllZip3 (IsColumnOf (map fields rows)) (schema_columns fs) ls columns

-- What the footer says of a group: its pages, and the rows that they hold.
pub record HoldsRows (fs : FieldTrees) (bytes : List ℕ) (place : ℕ) (ls : List Leaf) (m : GroupMeta) (g : GroupPages) (rows : List Slots) : Type 0 where
  pub is : IsGroup bytes place ls m g.rows g.chunks
  pub rows_are : AreRowsOf fs ls (map column_in g.chunks) rows

-- ---- the entries of a dictionary

abbrev pub IsEntryOf : TypeTree → Physical → Option Value → Value → Type 0
IsEntryOf t p (Some v) s = IsStored (leaf_type t) p v s
IsEntryOf t p None s = ⊥

-- of a dictionary type the values that the chunk's entries store, in their order; of another type none
abbrev pub HasEntriesOf : Bool → TypeTree → Physical → Option (List Value) → Option (List (Option Value)) → Type 0
HasEntriesOf false t p stored None = Unit {0}
HasEntriesOf true t p (Some stored) (Some entries) = AllZip (IsEntryOf t p) entries stored
HasEntriesOf _ t p _ _ = ⊥

abbrev pub AreEntriesFor : ArrowColumn → Leaf → Column → Option (List (Option Value)) → Type 0
AreEntriesFor c l got entries = HasEntriesOf (is_dictionary c.data_type) c.data_type l.physical got.entries entries

-- for each column of a group
abbrev pub AreAllEntries : List ArrowColumn → List Leaf → List Column → List (Option (List (Option Value))) → Type 0
AreAllEntries [] [] [] [] = Unit {0}
AreAllEntries (c ∷ cs) (l ∷ ls) (got ∷ gots) (d ∷ ds) = AreEntriesFor c l got d × AreAllEntries cs ls gots ds
AreAllEntries _ _ _ _ = ⊥

-- ---- what is seen of rows: for each field its type and its slots

pub record Seen : Type 0 where
  pub type : TypeTree
  pub slots : List Slot

abbrev pub seen_from : ℕ → FieldTrees → List Slots → List Seen
seen_from place no_fields rows = []
seen_from place (more_fields (field name t is_nullable metadata) fs) rows = record { type = t; slots = field_slots place rows } ∷ seen_from (suc place) fs rows
