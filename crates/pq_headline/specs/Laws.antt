-- What the definitions promise of themselves.
use Rattle.std.specs.Prelude.{◌≡◌, ◌≢◌, ◌⊎◌, ◌<◌, ◌-◌, ℕ, pos, List, [], ◌∷◌, ◌++◌, length, flat_map, map, All, Option, true, false}
use Rattle.std.specs.List.{AllZip}
use Rattle.columns_base.specs.declared.error.Error.{Error}
use Rattle.columns_base.specs.declared.error.Error.TheVariants.{Overflow}
use Rattle.columns_base.specs.declared.error.V.TheVariants.{V3}
use Rattle.columns_core.specs.Shapes.{shape_of, shapes_of}
use Rattle.columns_core.specs.Tree.{FieldTree, FieldTrees, no_fields}
use Rattle.columns_core.specs.View.{SchemaTree}
use Rattle.columns_slots.specs.Tree.{ArrayTrees}
use Rattle.pq_metadata.specs.Footer.{Footer, GroupMeta}
use Rattle.pq_tree.specs.Tree.{Leaf, Schema, Tree, Trees, leaves, leaves_of, columns_of}
use Rattle.pq_files.specs.Layout.{OutGroup}
use Rattle.pq_files.specs.Packed.{Packed}
use Rattle.pq_files.specs.Page.{plain}
use Rattle.pq_files.specs.Reasons.{S1, S2, N1, N2, N3, N7}
use Rattle.pq_files.specs.Room.{max_size, footer_room, planned_footer}
use Rattle.schema_fit.specs.Fits.{agrees_with, fits_to}
use Rattle.schema_key.specs.declared.infer.KeyRule.{KeyRule}
use Rattle.schema_to_tree.specs.Conditions.{AreWritten}
use Rattle.schema_map.specs.Rows.{HasRows as FieldHasRows}
use Rattle.schema_to_tree.specs.Table.{schema_of, tree_of}
use Rattle.shredding.specs.Cut.{cut}
use Rattle.shredding.specs.Shape.{HasNoEmptyStruct, HaveNoEmptyStruct}
use Rattle.shredding.specs.Slot.{Slots}
use Rattle.pq_headline.specs.Arrays.{seen_in}
use Rattle.pq_headline.specs.Opened.{AreOpened, GroupIsPlaced, AreChunksFrom, AreAssembled, rows_in_chunks}
use Rattle.pq_headline.specs.Openings.{Opening, AreAlike, CanBeWritten, piece_size}
use Rattle.pq_headline.specs.Columns.{schema_columns}
use Rattle.pq_headline.specs.Output.{all_chosen}
use Rattle.pq_headline.specs.Rewrites.{Asked, Codec, Counts, HasFooterAt, InfersSchema, Converts, Rewrites, keys_out}
use Rattle.pq_headline.specs.Rows.{Seen}
use Rattle.pq_headline.specs.Served.{are_served_fields}
use Rattle.pq_headline.specs.Stages.{AreAllAlike, HaveRows, Passes3, Passes6, Refuses, RefusesSchema6, SchemaFits, Valid, fields_with_columns, list_fields, trees_with_columns}
use Rattle.pq_headline.specs.Written.{HasRead, IsRefusedAt, IsWrittenAs}

-- ---- cutting

-- pieces of so many rows that are left: each as long as the next piece is, until none is left
abbrev pub Steps : {A : Type 0} → Option ℕ → ℕ → List (List A) → Type 0
Steps n left [] = left ≡ 0
Steps n left (p ∷ ps) = (length p ≡ piece_size n left) × (0 < length p) × Steps n (left - length p) ps

-- Such pieces are the cut of all their rows.
abbrev pub PiecesAreCut : Type 0
PiecesAreCut = (n : Option ℕ) (left : ℕ) (ps : List (List Slots)) → Steps n left ps → cut (flat_map (λ p. p) ps) n ≡ ps

-- ---- groups

-- The fields of a group, opened, and chunks of one array of each until all its rows came: where each field is whole, the group is read, with the rows of
-- the chunks.
abbrev pub GroupsAreRead : Type 0
GroupsAreRead =
    (n : Option ℕ) (fs : FieldTrees) (tree : Schema) (bytes : List ℕ) (place rows : ℕ) (m : GroupMeta) (os : List Opening) (chunks : List ArrayTrees)
    → m.num_rows ≡ pos rows → 0 < length os
    → AreOpened bytes place rows n fs (columns_of tree) m.chunks os → AreChunksFrom 0 os chunks → AreAssembled 0 os chunks → rows_in_chunks chunks ≡ rows
    → HasRead n fs tree bytes place (m ∷ []) chunks

-- no group, and groups behind others
pub record GroupsFollow : Type 0 where
  pub none : (n : Option ℕ) (fs : FieldTrees) (tree : Schema) (bytes : List ℕ) (place : ℕ) → HasRead n fs tree bytes place [] []
  pub more :
      (n : Option ℕ) (fs : FieldTrees) (tree : Schema) (bytes : List ℕ) (place : ℕ) (ms others : List GroupMeta) (chunks next : List ArrayTrees)
      → HasRead n fs tree bytes place ms chunks → HasRead n fs tree bytes place others next → HasRead n fs tree bytes place (ms ++ others) (chunks ++ next)

-- What was read, laid out chunk by chunk, is converted.
abbrev pub WrittenIsConverted : Type 0
WrittenIsConverted =
    (asked : Asked) (fs : FieldTrees) (tree : Schema) (bytes : List ℕ) (place : ℕ) (ms : List GroupMeta) (chunks : List ArrayTrees) (outs : List OutGroup)
    → HasRead asked.chunk_size fs tree bytes place ms chunks → AllZip (IsWrittenAs asked fs) chunks outs → Converts asked fs tree bytes place ms outs (map seen_in chunks)

-- Where all groups were read, what refuses one of the chunks, or the footer behind all of them, refuses the input.
pub record OutputsAreRefused : Type 0 where
  pub chunk :
      (codec : Codec) (asked : Asked) (bytes : List ℕ) (place : ℕ) (f : Footer) (s : SchemaTree) (chunks : List ArrayTrees) (e : Error)
      → Passes6 codec asked bytes place f s → HasRead asked.chunk_size s.fields f.schema bytes place f.groups chunks → IsRefusedAt asked s.fields chunks e → Refuses codec asked bytes e
  pub footer :
      (codec : Codec) (asked : Asked) (bytes : List ℕ) (place : ℕ) (f : Footer) (s : SchemaTree) (chunks : List ArrayTrees) (outs : List OutGroup)
      → Passes6 codec asked bytes place f s → HasRead asked.chunk_size s.fields f.schema bytes place f.groups chunks → AllZip (IsWrittenAs asked s.fields) chunks outs
      → (max_size < length (codec.bytes_of s)) ⊎ (max_size < footer_room (planned_footer (schema_of s.fields) (keys_out codec s f.keys) outs)) → Refuses codec asked bytes (Overflow V3)

-- ---- the whole

abbrev pub no_counts : Counts
no_counts = record { groups = 0; rows = 0; data_pages = 0 }

-- A file without groups is rewritten as the packed file of its schema without groups, and as no other.
pub record WithoutGroups : Type 0 where
  pub are :
      (codec : Codec) (asked : Asked) (input output : List ℕ) (place : ℕ) (f : Footer) (s : SchemaTree) → HasFooterAt input place f → f.groups ≡ [] → InfersSchema codec asked.rule f s
      → Packed output (schema_of s.fields) (keys_out codec s f.keys) asked.version [] → Rewrites codec asked input output no_counts []
  pub alone :
      (codec : Codec) (asked : Asked) (input output : List ℕ) (counts : Counts) (shown : List (List Seen)) (r : Rewrites codec asked input output counts shown) → r.footer.groups ≡ [] → (r.outs ≡ []) × (counts ≡ no_counts) × (shown ≡ [])

-- What passed the third stage is not refused at it, nor is what passed the fifth or the sixth.
pub record PassedIsNotRefused : Type 0 where
  pub third : (bytes : List ℕ) (place : ℕ) (f : Footer) → Passes3 bytes place f → (¬ S1 bytes) × (¬ N2 bytes) × (¬ N7 bytes)
  pub fifth : (place : ℕ) (f : Footer) → All (GroupIsPlaced place (columns_of f.schema)) f.groups → (¬ S2 place f) × (¬ N1 f) × (¬ N3 f)
  pub sixth : (codec : Codec) (rule : KeyRule) (f : Footer) (s : SchemaTree) (e : Error) → InfersSchema codec rule f s → SchemaFits s.fields f → ¬ RefusesSchema6 codec rule f e

-- what is refused is not valid
abbrev pub RefusedIsNotValid : Type 0
RefusedIsNotValid = (codec : Codec) (asked : Asked) (bytes : List ℕ) (e : Error) → Refuses codec asked bytes e → ¬ Valid codec asked bytes

-- ---- fields and leaves

-- A field that fits a tree goes with the tree's leaves: one leaf for each column, of its levels, under a row of the page table.
abbrev pub FittingFieldsAreAlike : Type 0
FittingFieldsAreAlike = (f : FieldTree) (t : Tree) → HasNoEmptyStruct (shape_of f) → fits_to f t ≡ true → AreAlike f (leaves t)

-- The same of the fields of a schema and the trees with a column.
abbrev pub FittingSchemasAreAlike : Type 0
FittingSchemasAreAlike = (fs : FieldTrees) (ts : Trees) → HaveNoEmptyStruct (shapes_of fs) → AllZip (λ f t. fits_to f t ≡ true) (list_fields fs) (trees_with_columns ts) → AreAllAlike fs (leaves_of ts)

-- ---- a schema that is settled

-- Where fields agree with trees one by one, are written, are in the page table and are served, no condition of the stage of the schema holds.
abbrev pub SettledSchemasFit : Type 0
SettledSchemasFit =
    (fs : FieldTrees) (f : Footer) → fs ≢ no_fields → AllZip (λ g t. agrees_with g t ≡ true) (fields_with_columns fs) (trees_with_columns f.schema.fields)
    → AreWritten fs → HaveRows fs → are_served_fields fs ≡ true → SchemaFits fs f

-- As many leaves of a file go with a field as its own tree has.
abbrev pub LeavesAreAsMany : Type 0
LeavesAreAsMany = (f : FieldTree) (ls : List Leaf) → FieldHasRows f → HasNoEmptyStruct (shape_of f) → AreAlike f ls → length ls ≡ length (leaves (tree_of f))

-- Where no deltas are asked for, all columns of fields that are served are written plain.
abbrev pub ServedIsPlain : Type 0
ServedIsPlain = (fs : FieldTrees) → CanBeWritten fs → are_served_fields fs ≡ true → all_chosen false (schema_columns fs) (columns_of (schema_of fs)) ≡ map (λ _. plain) (columns_of (schema_of fs))
