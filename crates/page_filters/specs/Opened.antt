-- A chunk that is opened for the pages that a filter keeps (Parquet format, "Column chunks").
use Rattle.std.specs.Prelude.{◌≡◌, ℕ, List, Bool, None}
use Rattle.pq_tree.specs.Columns.{Column}
use Rattle.pq_tree.specs.Described.{column_view}
use Rattle.pq_tree.specs.Headers.{Header}
use Rattle.pq_tree.specs.declared.types.ColumnChunkMetaData.{ColumnChunkMetaData}
use Rattle.pq_pages.specs.Opened.{OpensChunk}
use Rattle.pq_pages.specs.Sources.{Source}
use Rattle.page_filters.specs.Filters.{kept}

-- What is opened of a chunk: of its pages those that are kept; none is lent yet.
pub record OpensKept (file : List ℕ) (c : ColumnChunkMetaData) (max : ℕ) (keeps : Column → Header → Bool) (r : Source) : Type 0 where
  pub whole : Source
  pub opens : OpensChunk file c max whole
  pub outcomes : r.outcomes ≡ kept (keeps (column_view opens.column)) whole.outcomes
  pub lends_none : r.lent ≡ None
