-- Pages with other statistics in their headers (Parquet format, parquet.thrift: `Statistics`).
use Rattle.std.specs.Prelude.{◌≡◌, Option, option_map, false}
use Rattle.leaf_pages.specs.Columns.{IsPageAlong, PathColumn}
use Rattle.pq_files.specs.Page.{plain}
use Rattle.pq_pages.specs.DataPages.{DataPageValue}
use Rattle.pq_tree.specs.Described.{column_view}
use Rattle.pq_tree.specs.Footers.{ChunkStatistics}
use Rattle.pq_tree.specs.Views.{bytes_view, statistics_view}
use Rattle.pq_tree.specs.declared.types.DataPageHeader.{DataPageHeader}
use Rattle.pq_tree.specs.declared.types.DataPageHeader.TheVariants.{V1, V2}
use Rattle.pq_tree.specs.declared.types.Descriptor.{Descriptor}
use Rattle.pq_tree.specs.declared.types.FixedLenStatistics.{FixedLenStatistics}
use Rattle.pq_tree.specs.declared.types.Statistics.{Statistics}
use Rattle.write_pages.specs.declared.options.WriteOptions.{WriteOptions}

-- statistics of byte strings of one size, as a header states them
abbrev pub stated_fixed : FixedLenStatistics → ChunkStatistics
stated_fixed s = record { null_count = s.null_count; max_value = option_map bytes_view s.max_value; min_value = option_map bytes_view s.min_value }

-- the header with these statistics in the place of its own
abbrev pub restated : Option Statistics → DataPageHeader → DataPageHeader
restated s (V1 h) =
    V1 (record { num_values = h.num_values; encoding = h.encoding; definition_level_encoding = h.definition_level_encoding; repetition_level_encoding = h.repetition_level_encoding; statistics = s })
restated s (V2 h) =
    V2 (record { num_values = h.num_values; num_nulls = h.num_nulls; num_rows = h.num_rows; encoding = h.encoding; definition_levels_byte_length = h.definition_levels_byte_length; repetition_levels_byte_length = h.repetition_levels_byte_length; is_compressed = h.is_compressed; statistics = s })

-- the same options without statistics
abbrev pub without_statistics : WriteOptions → WriteOptions
without_statistics o = record { write_statistics = false; version = o.version; compression = o.compression; data_pagesize_limit = o.data_pagesize_limit }

-- the page states these statistics, and is the other one in everything else
pub record HasStated (bare : DataPageValue) (given : Option ChunkStatistics) (page : DataPageValue) : Type 0 where
  pub statistics : Option Statistics
  pub are : option_map statistics_view statistics ≡ given
  pub header : page.header ≡ restated statistics bare.header
  pub buffer : page.buffer ≡ bare.buffer
  pub descriptor : page.descriptor ≡ bare.descriptor

-- the page with this descriptor in the place of its own
abbrev pub described : Descriptor → DataPageValue → DataPageValue
described d page = record { header = page.header; buffer = page.buffer; descriptor = d; selected_rows = page.selected_rows }

-- the page states these statistics, and is the other one in everything else, with a descriptor of the same column
abbrev pub Restates : DataPageValue → Option ChunkStatistics → DataPageValue → Type 0
Restates bare given page = (column_view page.descriptor ≡ column_view bare.descriptor) × HasStated (described page.descriptor bare) given page

-- the page of the column in PLAIN, but for the statistics: its header states these
abbrev pub IsRestated : WriteOptions → Option ChunkStatistics → PathColumn → DataPageValue → Type 0
IsRestated o given c page = (bare : DataPageValue) × IsPageAlong (without_statistics o) plain c bare × HasStated bare given page
