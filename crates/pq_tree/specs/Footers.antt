-- What a footer says, as records (Parquet format, parquet.thrift: FileMetaData, RowGroup, ColumnChunk, ColumnMetaData, Statistics, KeyValue).
use Rattle.std.specs.Prelude.{ℕ, ℤ, List, Option}
use Rattle.pq_tree.specs.Tree.{Schema, Element, count_trees, preorder_of}

-- what a footer says of a column's values; no more is done with it
pub record ChunkStatistics : Type 0 where
  pub null_count : Option ℤ
  pub max_value : Option (List ℕ)
  pub min_value : Option (List ℕ)

-- what a footer says of one column of one group
pub record ChunkMeta : Type 0 where
  pub file_path : Option (List ℕ)
  pub physical : ℤ
  pub codec : ℤ
  pub num_values : ℤ
  pub size : ℤ
  pub data_page : ℤ
  pub dictionary_page : Option ℤ
  pub statistics : Option ChunkStatistics

pub record GroupMeta : Type 0 where
  pub chunks : List ChunkMeta
  pub num_rows : ℤ

pub record Key : Type 0 where
  pub key : List ℕ
  pub value : Option (List ℕ)

pub record Footer : Type 0 where
  pub schema : Schema
  pub groups : List GroupMeta
  pub keys : List Key

-- ---- the footer with the elements of its schema as a list, before they are put together to a tree

-- the root's name and the number of its children, and the elements behind the root
pub record FlatFooter : Type 0 where
  pub name : List ℕ
  pub children : ℕ
  pub nodes : List Element
  pub groups : List GroupMeta
  pub keys : List Key

-- a footer without its tree
abbrev pub flat_form : Footer → FlatFooter
flat_form f =
    record {
      name = f.schema.name;
      children = count_trees f.schema.fields;
      nodes = preorder_of f.schema.fields;
      groups = f.groups;
      keys = f.keys;
    }
