-- Nothing of the sample passes a size of the format.
use Rattle.std.specs.Prelude.{◌≡◌, ◌⊎◌, ℕ, suc, ◌+◌, ◌*◌, ◌≤◌, List, [], ◌∷◌, ◌++◌, All, length, map, sum_by, Option, Some, None}
use Rattle.std.specs.List.{AllZip, range_with_len}
use Rattle.shredding.specs.Shred.{Triple, column}
use Rattle.shredding.specs.Slot.{Slot, Slots, Value, fields}
use Rattle.columns_base.specs.declared.error.A.TheVariants.{A7}
use Rattle.columns_base.specs.declared.error.Error.TheVariants.{InputLimit, InvalidArgumentError, Overflow}
use Rattle.columns_base.specs.declared.error.Limit.TheVariants.{Pairs}
use Rattle.columns_base.specs.declared.error.V.{V}
use Rattle.columns_core.specs.Tree.{FieldTrees, no_fields, more_fields}
use Rattle.columns_slots.specs.Slots.{AreTyped, IsSound}
use Rattle.columns_slots.specs.Tree.{ArrayTrees, no_arrays, more_arrays}
use Rattle.pq_files.specs.Layout.{OutGroup}
use Rattle.pq_files.specs.Page.{values_in}
use Rattle.pq_files.specs.Room.{footer_room, max_size, planned_footer}
use Rattle.pq_headline.specs.Arrays.{all_entries}
use Rattle.pq_headline.specs.Columns.{ArrowColumn, field_columns, schema_columns}
use Rattle.pq_headline.specs.FieldReasons.{PassesLists, PassesTexts}
use Rattle.pq_headline.specs.Output.{HasWideDecimal, PieceIsTooLarge, Style}
use Rattle.pq_headline.specs.Rewrites.{Asked, Codec, HasFooterAt, Piece}
use Rattle.pq_headline.specs.Rows.{field_slots}
use Rattle.pq_headline.specs.Stages.{Refuses, V3At, pairs_claimed}
use Rattle.pq_metadata.specs.Footer.{Footer}
use Rattle.pq_tree.specs.Tree.{columns_of}
use Rattle.pq_tree.specs.declared.version.Version.{Version}
use Rattle.sample_rows.specs.Fields.{sample_fields, sample_tree}
use Rattle.sample_rows.specs.Rows.{sample_row}
use Rattle.sample_sizes.specs.Laid.{IsLaidOut}
use Rattle.sample_sizes.specs.Rows.{AreGroupsOfRows, AreRows, IsRow, IsSample, thousands}
use Rattle.schema_codec.specs.Spelling.{plain_bytes}
use Rattle.schema_key.specs.Key.{schema_entry}
use Rattle.schema_to_tree.specs.Table.{schema_of}
use Rattle.unique_rows.specs.Rewritten.{IsFileFor, IsTold}
use Rattle.write_counts.specs.Passing.{GroupPasses}

-- rows of the sample that follow one another are such rows
abbrev pub PartsAreRows : Type 0
PartsAreRows = (first count : ℕ) → first + count ≤ 1000000 → AreRows (map sample_row (range_with_len first count))

-- a column has at most three pairs a row
abbrev pub PairsAreFew : Type 0
PairsAreFew = (rows : List Slots) → All IsRow rows → All (λ c. length (column c.way (map fields rows)) ≤ 3 * length rows) (schema_columns sample_fields)

-- an array of a part of the column has no more items, and no more bytes of texts, than its offsets count
abbrev pub IsWithinOffsets : ArrowColumn → List Slot → Type 0
IsWithinOffsets c rows = (before piece behind : List Triple) → column c.way rows ≡ before ++ (piece ++ behind) → ¬ (PassesLists c.way 1 c.limits piece ⊎ PassesTexts c.data_type (values_in piece))

-- the columns of each field, of which the first stands at this place
abbrev pub AreWithinOffsets : ℕ → FieldTrees → List Slots → Type 0
AreWithinOffsets place no_fields rows = Unit {0}
AreWithinOffsets place (more_fields f fs) rows = All (λ c. IsWithinOffsets c (field_slots place rows)) (field_columns f) × AreWithinOffsets (suc place) fs rows

-- arrays of the sample's rows, or of a part of them, stay within their offsets
abbrev pub OffsetsHold : Type 0
OffsetsHold = (rows : List Slots) → AreRows rows → AreWithinOffsets 0 sample_fields rows

-- no page of a group has more room than the format gives it, however the rows are laid out
abbrev pub NoPageIsLarge : Type 0
NoPageIsLarge = (s : Style) (rows : List Slots) (ds : List (Option (List (Option Value)))) → AreRows rows → All (λ d. d ≡ None) ds → ¬ PieceIsTooLarge s sample_fields rows ds

-- each array is sound
abbrev pub AreEachSound : ArrayTrees → Type 0
AreEachSound no_arrays = Unit {0}
AreEachSound (more_arrays c cs) = IsSound c × AreEachSound cs

-- sound arrays of the sample's fields have no dictionaries
abbrev pub ArraysHaveNoEntries : Type 0
ArraysHaveNoEntries = (cs : ArrayTrees) → AreTyped sample_fields cs → AreEachSound cs → All (λ d. d ≡ None) (all_entries cs)

-- the sample has no decimals
abbrev pub NoDecimalIsWide : Type 0
NoDecimalIsWide = (rows : List Slots) → ¬ HasWideDecimal sample_fields rows

-- the sample's schema has few bytes
abbrev pub SchemaIsSmall : Type 0
SchemaIsSmall = length (plain_bytes sample_tree) ≤ max_size

-- a footer of the sample's groups, with the schema's key alone, has no more room than the format gives it
abbrev pub FootersHaveRoom : Type 0
FootersHaveRoom =
    (s : Style) (rowss : List (List Slots)) (outs : List OutGroup) → AreGroupsOfRows rowss → AllZip (IsLaidOut s) rowss outs
    → footer_room (planned_footer (schema_of sample_fields) (schema_entry (plain_bytes sample_tree) ∷ []) outs) ≤ max_size

-- a group behind others passes no count of a footer
abbrev pub CountsHold : Type 0
CountsHold =
    (s : Style) (version : Version) (rowss : List (List Slots)) (rows : List Slots) (behind : List (List Slots)) (outs : List OutGroup) (out : OutGroup)
    → AreGroupsOfRows (rowss ++ rows ∷ behind) → AllZip (IsLaidOut s) rowss outs → IsLaidOut s rows out → ¬ GroupPasses version (columns_of (schema_of sample_fields)) outs out

-- a file of the sample, in pages by the row rule with a limit of a mebibyte, has at most 256 mebibytes
abbrev pub FilesAreSmall : Type 0
FilesAreSmall = (s : Style) (version : Version) (rowss : List (List Slots)) (bytes : List ℕ) → s.page_limit ≡ 1048576 → AreGroupsOfRows rowss → IsFileFor s version plain_bytes sample_tree rowss bytes → length bytes ≤ 268435456

-- the sample's groups are rows of the sample, and so are those that they are cut into
abbrev pub SamplesAreGroups : Type 0
SamplesAreGroups = (rowss : List (List Slots)) → IsSample rowss → AreGroupsOfRows rowss × AreGroupsOfRows (thousands rowss)

-- a footer of such a file claims at most nine pairs a row: three for each column
abbrev pub FewPairsAreClaimed : Type 0
FewPairsAreClaimed =
    (s : Style) (version : Version) (rowss : List (List Slots)) (bytes : List ℕ) (place : ℕ) (f : Footer)
    → AreGroupsOfRows rowss → IsFileFor s version plain_bytes sample_tree rowss bytes → HasFooterAt bytes place f → pairs_claimed f ≤ 9 * sum_by length rowss

-- pieces of the sample's rows pass no size of the format, whatever they are asked to be laid out as
abbrev pub NoPieceIsPast : Type 0
NoPieceIsPast =
    (codec : Codec) (asked : Asked) (f : Footer) (pieces : List Piece)
    → codec.bytes_of sample_tree ≡ plain_bytes sample_tree → f.keys ≡ schema_entry (plain_bytes sample_tree) ∷ [] → AreGroupsOfRows (map (λ p. p.rows) pieces)
    → ¬ V3At codec asked f sample_tree pieces

-- ---- rewrites

-- The codec's bytes of the sample's schema are the plain ones, and tell it; groups of a thousand rows are asked for, and nine million pairs are few enough.
pub record IsAskedFor (codec : Codec) (asked : Asked) : Type 0 where
  pub bytes_are : codec.bytes_of sample_tree ≡ plain_bytes sample_tree
  pub told : IsTold codec asked sample_tree
  pub pieces : asked.chunk_size ≡ Some 1000
  pub pairs : 9000000 ≤ asked.pair_limit

-- The input has at most 256 mebibytes, and is refused neither for a size of the format or of an array, nor for the pairs that its footer claims, nor for a decimal.
pub record PassesNoSize (codec : Codec) (asked : Asked) (input : List ℕ) : Type 0 where
  pub small : length input ≤ 268435456
  pub overflow : (v : V) → ¬ Refuses codec asked input (Overflow v)
  pub pairs : ¬ Refuses codec asked input (InputLimit Pairs)
  pub decimals : ¬ Refuses codec asked input (InvalidArgumentError A7)

-- a file of the sample, in pages by the row rule with a limit of a mebibyte
abbrev pub SamplesPassNoSize : Type 0
SamplesPassNoSize =
    (s : Style) (version : Version) (codec : Codec) (asked : Asked) (rowss : List (List Slots)) (input : List ℕ)
    → s.page_limit ≡ 1048576 → IsAskedFor codec asked → IsSample rowss → IsFileFor s version plain_bytes sample_tree rowss input → PassesNoSize codec asked input
