-- What the Rust records of a footer state.
use Rattle.std.specs.Prelude.{map, option_map, string_bytes}
use Rattle.pq_tree.specs.TreeViews.{schema_view, pairs_view}
use Rattle.pq_tree.specs.Views.{statistics_view}
use Rattle.pq_files.specs.FooterRecord.{ColumnMetaData, ColumnChunk, RowGroup, FileMetaData}
use Rattle.footer_write.specs.declared.types.ThriftColumnMetaData.{ThriftColumnMetaData}
use Rattle.footer_write.specs.declared.types.ThriftColumnChunk.{ThriftColumnChunk}
use Rattle.footer_write.specs.declared.types.ThriftRowGroup.{ThriftRowGroup}
use Rattle.footer_write.specs.declared.types.ThriftFileMetaData.{ThriftFileMetaData}

abbrev pub column_view : ThriftColumnMetaData → ColumnMetaData
column_view c =
    record {
      type = c.type_;
      encodings = c.encodings.items;
      path_in_schema = map string_bytes c.path_in_schema.items;
      codec = c.codec;
      num_values = c.num_values;
      total_uncompressed_size = c.total_uncompressed_size;
      total_compressed_size = c.total_compressed_size;
      data_page_offset = c.data_page_offset;
      dictionary_page_offset = c.dictionary_page_offset;
      statistics = option_map statistics_view c.statistics;
    }

abbrev pub chunk_view : ThriftColumnChunk → ColumnChunk
chunk_view c = record { file_offset = c.file_offset; meta_data = column_view c.meta_data }

abbrev pub row_group_view : ThriftRowGroup → RowGroup
row_group_view g =
    record {
      columns = map chunk_view g.columns.items;
      total_byte_size = g.total_byte_size;
      num_rows = g.num_rows;
      file_offset = g.file_offset;
      total_compressed_size = g.total_compressed_size;
      ordinal = g.ordinal;
    }

abbrev pub footer_view : ThriftFileMetaData → FileMetaData
footer_view m =
    record {
      version = m.version;
      schema = schema_view m.schema;
      num_rows = m.num_rows;
      row_groups = map row_group_view m.row_groups.items;
      keys = pairs_view m.key_value_metadata;
      created_by = string_bytes m.created_by;
    }
