-- The chunks of a field's columns, opened, and the fields of a group one after another.
use Rattle.std.specs.Prelude.{◌≡◌, ◌≤◌, ◌++◌, [], ℕ, List, Option, Some, Vec, true, map, All}
use Rattle.std.specs.Global.{Global}
use Rattle.std.specs.List.{AllZip}
use Rattle.columns_core.specs.Measures.{field_nesting, fields_nesting}
use Rattle.columns_core.specs.Tree.{FieldTree, FieldTrees}
use Rattle.pq_metadata.specs.Footer.{ChunkMeta}
use Rattle.pq_tree.specs.Columns.{column_of}
use Rattle.pq_tree.specs.Described.{descriptor_view}
use Rattle.pq_tree.specs.Tree.{Leaf}
use Rattle.pq_tree.specs.Views.{chunk_view, physical_view}
use Rattle.pq_tree.specs.declared.types.ColumnChunkMetaData.{ColumnChunkMetaData}
use Rattle.pq_tree.specs.declared.types.Encoding.{Encoding}
use Rattle.pq_tree.specs.declared.types.PrimitiveType.{PrimitiveType}
use Rattle.pq_pages.specs.Outcomes.{Outcome, IsOfLevels}
use Rattle.schema_to_tree.specs.Table.{trees_of}
use Rattle.pq_headline.specs.Lists.{AllZip3}
use Rattle.pq_headline.specs.Opened.{ChunkIsPlaced, Reads, AreOpened}
use Rattle.pq_headline.specs.Openings.{Opening, AreAlike, CanBeWritten, HaveLevels, leaf_levels}
use Rattle.pq_headline.specs.Served.{is_served_field, are_served_fields}
use Rattle.pq_headline.specs.Stages.{AreAllAlike}
use Rattle.read_pieces.specs.Columns.{FailsAs}
use Rattle.assembly.specs.Giving.{FieldReading}
use Rattle.rewrite_whole.specs.Groups.{AreGiving, AreSame}
use Rattle.rewrite_whole.specs.Plans.{AreAsMany}

-- ---- columns

-- a chunk in its place, with the column of its leaf
pub record IsChunkOf (place : ℕ) (c : ColumnChunkMetaData) (l : Leaf) : Type 0 where
  pub placed : ChunkIsPlaced place (chunk_view c) l
  pub described : descriptor_view c ≡ Some (column_of l)

-- the source of one chunk
pub record OpensOne (bytes : List ℕ) (place : ℕ) (m : ChunkMeta) (l : Leaf) (outcomes : List Outcome) : Type 0 where
  pub read : Reads bytes place m l outcomes
  pub levels : All (IsOfLevels (leaf_levels l)) outcomes
  pub failing : All FailsAs outcomes

-- The sources of chunks, and the types of their leaves.
pub record OpensColumns (bytes : List ℕ) (place : ℕ) (ms : List ChunkMeta) (ls : List Leaf) (outcomes : List (List Outcome)) (types : List PrimitiveType) : Type 0 where
  pub read : AllZip3 (Reads bytes place) ms ls outcomes
  pub levels : HaveLevels ls outcomes
  pub failing : All (All FailsAs) outcomes
  pub physicals : map (λ l. l.physical) ls ≡ map (λ t. physical_view t.physical_type) types

-- ---- fields

-- The chunks are those of the field's columns, and it is served.
pub record IsFieldOf (place : ℕ) (f : FieldTree) (chunks : List ColumnChunkMetaData) (ls : List Leaf) : Type 0 where
  pub chunks_are : AllZip (IsChunkOf place) chunks ls
  pub alike : AreAlike f ls
  pub served : is_served_field f ≡ true
  pub nesting : field_nesting f ≤ 128

-- Of the fields of a group some are opened, and these are left, with their leaves, chunks and encodings.
pub record AtField (bytes : List ℕ) (place rows : ℕ) (n : Option ℕ) (fs : FieldTrees) (ls : List Leaf) (ms : List ChunkMeta) (left : FieldTrees) (others : List Leaf) (chunks : List ColumnChunkMetaData) (encodings : List (Vec Encoding Global)) (iters : List FieldReading) : Type 0 where
  pub openings : List Opening
  pub opened : (more : List Opening) → AreOpened bytes place rows n left others (map chunk_view chunks) more → AreOpened bytes place rows n fs ls ms (openings ++ more)
  pub giving : AreGiving 0 openings iters []
  pub same : AreSame rows n openings
  pub alike : AreAllAlike left others
  pub chunks_are : AllZip (IsChunkOf place) chunks others
  pub held : CanBeWritten left
  pub served : are_served_fields left ≡ true
  pub nesting : fields_nesting left ≤ 128
  pub encodings_are : AreAsMany (trees_of left) encodings
