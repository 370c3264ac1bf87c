-- The rows that a file holds which was written as rows are laid out.
use Rattle.std.specs.Prelude.{◌≡◌, ℕ, List, All, map, Option, None, Bool, false}
use Rattle.std.specs.List.{AllZip}
use Rattle.shredding.specs.Shape.{AreOf, HasNoEmptyStruct, struct, ways}
use Rattle.shredding.specs.Slot.{Slots, Value}
use Rattle.columns_core.specs.Shapes.{shapes_of}
use Rattle.columns_core.specs.Tree.{FieldTrees}
use Rattle.pq_metadata.specs.Footer.{Footer, Key}
use Rattle.pq_files.specs.Carried.{GroupPages}
use Rattle.pq_files.specs.Layout.{OutGroup}
use Rattle.pq_files.specs.Packed.{Packed}
use Rattle.pq_tree.specs.Tree.{Schema, columns_of}
use Rattle.pq_tree.specs.declared.version.Version.{Version}
use Rattle.pq_headline.specs.Columns.{schema_columns}
use Rattle.pq_headline.specs.Lists.{AllZip3}
use Rattle.pq_headline.specs.Output.{IsLaidGroup, Style, all_chosen}
use Rattle.pq_headline.specs.Rewrites.{HasFooterAt}
use Rattle.pq_headline.specs.Rows.{HoldsRows}
use Rattle.schema_to_tree.specs.Table.{schema_of}

-- The ways of the columns are those of the schema's shape, and no struct is without fields.
pub record HasWays (fs : FieldTrees) : Type 0 where
  pub ways_are : map (λ c. c.way) (schema_columns fs) ≡ ways (struct false (shapes_of fs))
  pub structs : HasNoEmptyStruct (struct false (shapes_of fs))

-- Rows of the schema, and a group in which they are laid out without dictionaries, in the encodings that are chosen with deltas or without.
pub record AreRowsIn (s : Style) (fs : FieldTrees) (rows : List Slots) (out : OutGroup) : Type 0 where
  pub are : All (AreOf (shapes_of fs)) rows
  pub deltas : Bool
  pub entries : List (Option (List (Option Value)))
  pub none : All (λ d. d ≡ None) entries
  pub laid : IsLaidGroup s rows (schema_columns fs) (columns_of (schema_of fs)) (all_chosen deltas (schema_columns fs) (columns_of (schema_of fs))) entries out

-- what a footer's groups hold, by whatever tree
abbrev pub HoldAll : FieldTrees → List ℕ → ℕ → Footer → List GroupPages → List (List Slots) → Type 0
HoldAll fs bytes place f groups rows = AllZip3 (HoldsRows fs bytes place (columns_of f.schema)) f.groups groups rows

-- A file that was written for groups of rows has the tree and the keys that it was written for, and holds these rows, group by group, and no others.
pub record Holds (fs : FieldTrees) (tree : Schema) (keys : List Key) (rowss : List (List Slots)) (f : Footer) (rows : List (List Slots)) : Type 0 where
  pub schema : f.schema ≡ tree
  pub keys_are : f.keys ≡ keys
  pub rows_are : rows ≡ rowss

abbrev pub RowsAreUnique : Type 0
RowsAreUnique =
    (s : Style) (fs : FieldTrees) (bytes : List ℕ) (keys : List Key) (version : Version) (outs : List OutGroup) (rowss : List (List Slots)) (place : ℕ) (f : Footer) (groups : List GroupPages) (rows : List (List Slots))
    → HasWays fs → Packed bytes (schema_of fs) keys version outs → AllZip (AreRowsIn s fs) rowss outs → HasFooterAt bytes place f → HoldAll fs bytes place f groups rows
    → Holds fs (schema_of fs) keys rowss f rows
