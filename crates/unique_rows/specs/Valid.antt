-- Why a file that was written is refused: for sizes alone (docs/REASONS.md has each reason).
use Rattle.std.specs.Prelude.{◌≡◌, ◌≢◌, ◌⊎◌, ℕ, ◌<◌, ◌≤◌, List, [], ◌∷◌, ◌++◌, length, map, sum_by, Option, Some, None, true}
use Rattle.std.specs.List.{AllZip}
use Rattle.columns_base.specs.declared.error.Error.{Error}
use Rattle.columns_base.specs.declared.error.Error.TheVariants.{InputLimit, InvalidArgumentError, Overflow}
use Rattle.columns_base.specs.declared.error.Limit.TheVariants.{Pairs}
use Rattle.columns_base.specs.declared.error.A.TheVariants.{A7}
use Rattle.columns_base.specs.declared.error.V.TheVariants.{V1, V3}
use Rattle.shredding.specs.Shred.{column}
use Rattle.shredding.specs.Slot.{Slots, Value, fields}
use Rattle.columns_core.specs.Tree.{FieldTrees, no_fields}
use Rattle.columns_core.specs.View.{SchemaTree}
use Rattle.pq_tree.specs.Tree.{columns_of}
use Rattle.pq_tree.specs.declared.version.Version.{Version}
use Rattle.pq_files.specs.Layout.{OutGroup}
use Rattle.pq_files.specs.Page.{values_in}
use Rattle.pq_files.specs.Reasons.{AnyOf}
use Rattle.pq_files.specs.Room.{footer_room, max_size, planned_footer}
use Rattle.schema_key.specs.Key.{schema_entry}
use Rattle.schema_to_tree.specs.Conditions.{AreWritten}
use Rattle.schema_to_tree.specs.Table.{schema_of}
use Rattle.write_counts.specs.Passing.{GroupPasses}
use Rattle.pq_headline.specs.Columns.{schema_columns}
use Rattle.pq_headline.specs.FieldReasons.{PassesLists, PassesTexts}
use Rattle.pq_headline.specs.Output.{HasWideDecimal, IsLaidGroup, PieceIsTooLarge, Style, all_chosen}
use Rattle.pq_headline.specs.Rewrites.{Asked, Codec}
use Rattle.pq_headline.specs.Served.{are_served_fields}
use Rattle.pq_headline.specs.Stages.{HaveRows, Refuses, Valid}
use Rattle.unique_rows.specs.Rewritten.{IsFileFor, IsTold, all_cut}

-- There are fields, and each is written, has its row in the page table at its nesting, and is served.
pub record IsSettled (fs : FieldTrees) : Type 0 where
  pub some : fs ≢ no_fields
  pub written : AreWritten fs
  pub rows : HaveRows fs
  pub served : are_served_fields fs ≡ true

-- ---- the pairs of rows

-- those of all columns of a group
abbrev pub pairs_in_group : FieldTrees → List Slots → ℕ
pairs_in_group fs rows = sum_by (λ c. length (column c.way (map fields rows))) (schema_columns fs)

abbrev pub pairs_in_rows : FieldTrees → List (List Slots) → ℕ
pairs_in_rows fs rowss = sum_by (pairs_in_group fs) rowss

-- ---- arrays of rows

-- In one array of each field, a list of some column has more items, or its texts more bytes, than their offsets count.
abbrev pub PassOffsets : FieldTrees → List Slots → Type 0
PassOffsets fs rows = AnyOf (λ c. PassesLists c.way 1 c.limits (column c.way (map fields rows)) ⊎ PassesTexts c.data_type (values_in (column c.way (map fields rows)))) (schema_columns fs)

-- ---- groups of an output

-- no column has a dictionary
abbrev pub none_each : FieldTrees → List (Option (List (Option Value)))
none_each fs = map (λ c. None) (schema_columns fs)

-- the rows, laid out as is asked for
abbrev pub IsGroupFor : Asked → FieldTrees → List Slots → OutGroup → Type 0
IsGroupFor asked fs rows out = IsLaidGroup asked.style rows (schema_columns fs) (columns_of (schema_of fs)) (all_chosen asked.delta (schema_columns fs) (columns_of (schema_of fs))) (none_each fs) out

-- Behind the groups of the rows before them, the group of some rows passes the counts of a footer.
pub record RowsPassCounts (asked : Asked) (fs : FieldTrees) (rowss : List (List Slots)) : Type 0 where
  pub first : List (List Slots)
  pub rows : List Slots
  pub others : List (List Slots)
  pub parts : rowss ≡ first ++ rows ∷ others
  pub outs : List OutGroup
  pub are_out : AllZip (IsGroupFor asked fs) first outs
  pub out : OutGroup
  pub is_out : IsGroupFor asked fs rows out
  pub passes : GroupPasses asked.version (columns_of (schema_of fs)) outs out

-- a page's room, the codec's length or the footer's room passes the format's sizes, or a group its counts
abbrev pub AreTooLarge : Codec → Asked → SchemaTree → List (List Slots) → Type 0
AreTooLarge codec asked s rowss =
    AnyOf (λ rows. PieceIsTooLarge asked.style s.fields rows (none_each s.fields)) rowss
    ⊎ (max_size < length (codec.bytes_of s))
    ⊎ ((outs : List OutGroup) × AllZip (IsGroupFor asked s.fields) rowss outs × (max_size < footer_room (planned_footer (schema_of s.fields) (schema_entry (codec.bytes_of s) ∷ []) outs)))
    ⊎ RowsPassCounts asked s.fields rowss

-- ---- the law

-- What may refuse a file of these rows, by the schema and the rows: the limit on pairs, a decimal that is not held, and sizes and counts of arrays and of the output.
abbrev pub IsForSize : Codec → Asked → SchemaTree → List (List Slots) → Error → Type 0
IsForSize codec asked s rowss (InputLimit Pairs) = asked.pair_limit < pairs_in_rows s.fields rowss
IsForSize codec asked s rowss (InvalidArgumentError A7) = AnyOf (HasWideDecimal s.fields) (all_cut asked rowss)
IsForSize codec asked s rowss (Overflow V1) = AnyOf (PassOffsets s.fields) (all_cut asked rowss)
IsForSize codec asked s rowss (Overflow V3) = AreTooLarge codec asked s (all_cut asked rowss)
IsForSize codec asked s rowss e = ⊥

-- A file that was written for a schema that is settled and told by its key, and for some groups of rows, is refused for sizes alone.
abbrev pub FilesAreRefusedForSizeAlone : Type 0
FilesAreRefusedForSizeAlone =
    (style : Style) (version : Version) (codec : Codec) (asked : Asked) (s : SchemaTree) (rowss : List (List Slots)) (bytes : List ℕ) (e : Error)
    → IsSettled s.fields → asked.chunk_size ≢ Some 0 → IsTold codec asked s → IsFileFor style version codec.bytes_of s rowss bytes → Refuses codec asked bytes e → IsForSize codec asked s rowss e

-- Where none of these sizes stands in the way, it is a valid input.
abbrev pub FilesAreValid : Type 0
FilesAreValid =
    (style : Style) (version : Version) (codec : Codec) (asked : Asked) (s : SchemaTree) (rowss : List (List Slots)) (bytes : List ℕ)
    → IsSettled s.fields → asked.chunk_size ≢ Some 0 → IsTold codec asked s → IsFileFor style version codec.bytes_of s rowss bytes → length bytes ≤ asked.byte_limit → ((e : Error) → IsForSize codec asked s rowss e → ⊥)
    → Valid codec asked bytes
