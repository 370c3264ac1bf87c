-- What a footer states (Parquet format, parquet.thrift: FileMetaData, RowGroup, ColumnChunk, ColumnMetaData), under the names that the standard gives. Sizes are in bytes, and places are counted from the start of the file.
use Rattle.std.specs.Prelude.{ℕ, ℤ, List, map, Option, None}
use Rattle.pq_metadata.specs.Footer.{ChunkStatistics, ChunkMeta, GroupMeta, Key}
use Rattle.pq_tree.specs.Tree.{Schema}

pub record ColumnMetaData : Type 0 where
  pub type : ℤ
  pub encodings : List ℤ
  pub path_in_schema : List (List ℕ)
  pub codec : ℤ
  pub num_values : ℤ
  pub total_uncompressed_size : ℤ
  pub total_compressed_size : ℤ
  pub data_page_offset : ℤ
  pub dictionary_page_offset : Option ℤ
  pub statistics : Option ChunkStatistics

pub record ColumnChunk : Type 0 where
  pub file_offset : ℤ
  pub meta_data : ColumnMetaData

pub record RowGroup : Type 0 where
  pub columns : List ColumnChunk
  pub total_byte_size : ℤ
  pub num_rows : ℤ
  pub file_offset : ℤ
  pub total_compressed_size : ℤ
  pub ordinal : Option ℤ

-- The orders of the columns follow from the schema.
pub record FileMetaData : Type 0 where
  pub version : ℤ
  pub schema : Schema
  pub num_rows : ℤ
  pub row_groups : List RowGroup
  pub keys : List Key
  pub created_by : List ℕ

-- ---- what a reader takes of it

abbrev pub chunk_meta : ColumnChunk → ChunkMeta
chunk_meta c =
    record {
      file_path = None;
      physical = c.meta_data.type;
      codec = c.meta_data.codec;
      num_values = c.meta_data.num_values;
      size = c.meta_data.total_compressed_size;
      data_page = c.meta_data.data_page_offset;
      dictionary_page = c.meta_data.dictionary_page_offset;
      statistics = c.meta_data.statistics;
    }

abbrev pub group_meta : RowGroup → GroupMeta
group_meta g = record { chunks = map chunk_meta g.columns; num_rows = g.num_rows }
