-- How many bytes a page or a footer may take: bounds that a writer keeps, so that the 32-bit sizes of the Parquet format (parquet.thrift: PageHeader; "File format": footer length) hold them.
use Rattle.std.specs.Prelude.{◌⊎◌, ℕ, ◌+◌, ◌-◌, ◌*◌, ◌/◌, ◌^◌, ◌<◌, ◌≤◌, All, List, [], ◌∷◌, length, map, sum_by, Bool, true, false, cond, nat_eq, ◌&&◌, codes, Option, Some, None}
use Rattle.pq_tree.specs.declared.version.Version.TheVariants.{V1}
use Rattle.pq_metadata.specs.Footer.{ChunkStatistics, Key}
use Rattle.pq_files.specs.FooterRecord.{ColumnChunk, RowGroup, FileMetaData}
use Rattle.shredding.specs.Slot.{Value}
use Rattle.pq_files.specs.Layout.{OutPage, OutChunk, OutGroup, plain_length}
use Rattle.pq_files.specs.Page.{values_in}
use Rattle.pq_files.specs.Reasons.{AnyOf, AnyZip}
use Rattle.pq_files.specs.Written.{Place, chunk_record, group_record, footer_record}
use Rattle.pq_tree.specs.Tree.{Schema, Leaf, Element, preorder_of, columns_of}

-- a page of so many pairs or entries, whose values have so many plain bytes
abbrev pub room : ℕ → ℕ → ℕ
room pairs plain = 2048 + 14 * pairs + plain

-- level sections alone
abbrev pub level_room : ℕ → ℕ
level_room pairs = 2048 + 2 * pairs

abbrev pub bytes_of : Option (List ℕ) → ℕ
bytes_of None = 0
bytes_of (Some s) = length s

abbrev pub node_room : Element → ℕ
node_room e = 128 + length e.info.name

-- ARROW:schema, the key of the Arrow schema
abbrev pub schema_key : List ℕ
schema_key = codes "ARROW:schema"

abbrev pub are_same : List ℕ → List ℕ → Bool
are_same [] [] = true
are_same (a ∷ s) (b ∷ t) = nat_eq a b && are_same s t
are_same _ _ = false

abbrev pub key_room : Key → ℕ
key_room k = cond (are_same k.key schema_key) (96 + bytes_of k.value) (32 + length k.key + bytes_of k.value)

-- the bytes of the value that is added for a schema of so many bytes: base64 of them and eight more
abbrev pub schema_value_size : ℕ → ℕ
schema_value_size n = 4 * ((n + 8 + 2) / 3)

abbrev pub bounds_room : Option ChunkStatistics → ℕ
bounds_room None = 0
bounds_room (Some s) = bytes_of s.max_value + bytes_of s.min_value

abbrev pub name_room : List ℕ → ℕ
name_room name = 8 + length name

abbrev pub chunk_room : ColumnChunk → ℕ
chunk_room c = 256 + sum_by name_room c.meta_data.path_in_schema + bounds_room c.meta_data.statistics

abbrev pub group_room : RowGroup → ℕ
group_room g = 64 + sum_by chunk_room g.columns

-- the root is a node too
abbrev pub footer_room : FileMetaData → ℕ
footer_room m =
    4096 + (128 + length m.schema.name) + sum_by node_room (preorder_of m.schema.fields) + sum_by key_room m.keys + sum_by group_room m.row_groups

-- What the room leaves for the writer's name and for the encodings of a chunk. A footer with more of either may be longer than its room.
pub record IsBrief (m : FileMetaData) : Type 0 where
  pub author : length m.created_by ≤ 4000
  pub encodings : All (λ g. All (λ c. length c.meta_data.encodings ≤ 20) g.columns) m.row_groups

-- ---- the room of what is to be written: the same wherever it comes to stand, and in either version

abbrev pub at_start : Place
at_start = record { start = 0; dictionary = 0; size = 0 }

abbrev pub planned_chunks : List Leaf → List OutChunk → List ColumnChunk
planned_chunks (l ∷ ls) (c ∷ cs) = chunk_record l c at_start ∷ planned_chunks ls cs
planned_chunks _ _ = []

abbrev pub planned_group : List Leaf → OutGroup → RowGroup
planned_group ls g = group_record 0 (planned_chunks ls g.chunks) g.rows 0 0

abbrev pub planned_footer : Schema → List Key → List OutGroup → FileMetaData
planned_footer tree keys groups = footer_record V1 tree keys groups (map (planned_group (columns_of tree)) groups)

-- ---- what passes the sizes of the format: V3

abbrev pub max_size : ℕ
max_size = 2 ^ 31 - 1

abbrev pub max_count : ℕ
max_count = 2 ^ 63 - 1

-- a data page
abbrev pub PageIsTooLarge : Leaf → OutPage → Type 0
PageIsTooLarge l p = max_size < room (length p.triples) (plain_length l.physical (values_in p.triples))

-- a dictionary page
abbrev pub EntriesAreTooLarge : Leaf → Option (List Value) → Type 0
EntriesAreTooLarge l None = ⊥
EntriesAreTooLarge l (Some es) = max_size < room (length es) (plain_length l.physical es)

-- a column of a group: one of its pages, or the number of its pairs
abbrev pub ColumnIsTooLarge : Leaf → OutChunk → Type 0
ColumnIsTooLarge l c = EntriesAreTooLarge l c.entries ⊎ AnyOf (PageIsTooLarge l) c.pages ⊎ (max_count < sum_by (λ p. length p.triples) c.pages)

-- The rows of all groups, the footer, the bytes of the Arrow schema (0 where none is added), or a column.
abbrev pub V3 : Schema → List Key → ℕ → List OutGroup → Type 0
V3 tree keys schema_size groups =
    (max_size < footer_room (planned_footer tree keys groups)) ⊎ (max_size < schema_size) ⊎ (max_count < sum_by (λ g. g.rows) groups) ⊎ AnyOf (λ g. AnyZip ColumnIsTooLarge (columns_of tree) g.chunks) groups
