-- A chunk that is opened for its pages, and why none is (Parquet format, parquet.thrift: ColumnChunk, ColumnMetaData; "Column chunks").
use Rattle.std.specs.Prelude.{◌≡◌, ◌≢◌, ◌⊎◌, ◌≤◌, ℕ, pos, List, [], Option, Some, None}
use Rattle.columns_base.specs.declared.error.Error.{Error}
use Rattle.columns_base.specs.declared.error.Error.TheVariants.{Memory, OutOfSpec, NotYetImplemented}
use Rattle.columns_base.specs.declared.error.S.TheVariants.{S2}
use Rattle.columns_base.specs.declared.error.N.TheVariants.{N1, N3}
use Rattle.pq_tree.specs.declared.types.ColumnChunkMetaData.{ColumnChunkMetaData}
use Rattle.pq_tree.specs.declared.types.Descriptor.{Descriptor}
use Rattle.pq_metadata.specs.Footer.{ChunkMeta}
use Rattle.pq_tree.specs.Views.{chunk_view}
use Rattle.pq_files.specs.Carried.{start_of}
use Rattle.pq_files.specs.Reasons.{IsNegative, LiesOutside}
use Rattle.pq_numbers.specs.Texts.{IsAt}
use Rattle.pq_pages.specs.Outcomes.{levels_in}
use Rattle.pq_pages.specs.Reading.{at_start, pages_in}
use Rattle.pq_pages.specs.ReadsChunk.{ReadsChunk}
use Rattle.pq_pages.specs.Sources.{Source}

-- no other file is named
abbrev pub IsHere : Option (List ℕ) → Type 0
IsHere path = (path ≡ None) ⊎ (path ≡ Some [])

-- The chunk has n values, and its bytes are the text, behind the magic bytes of the file.
pub record IsPlaced (file : List ℕ) (m : ChunkMeta) (n : ℕ) (text : List ℕ) : Type 0 where
  pub values : m.num_values ≡ pos n
  pub start : ℕ
  pub starts : start_of m.data_page m.dictionary_page ≡ pos start
  pub behind_magic : 4 ≤ start
  pub size : ℕ
  pub has_size : m.size ≡ pos size
  pub is_there : IsAt file start size text

-- What is opened of a chunk: a source of its pages, which lends none yet.
pub record OpensChunk (file : List ℕ) (c : ColumnChunkMetaData) (max : ℕ) (r : Source) : Type 0 where
  pub column : Descriptor
  pub is_column : c.descriptor ≡ Some column
  pub here : IsHere (chunk_view c).file_path
  pub plain : c.codec ≡ pos 0
  pub n : ℕ
  pub text : List ℕ
  pub placed : IsPlaced file (chunk_view c) n text
  pub outcomes : r.outcomes ≡ pages_in max (levels_in column) at_start n text
  pub reads : ReadsChunk max (levels_in column) n text r.outcomes
  pub lends_none : r.lent ≡ None

-- the reasons of a chunk, in a file of so many bytes; want of memory alone is free
abbrev pub RefusesChunk : ℕ → ColumnChunkMetaData → Error → Type 0
RefusesChunk size c e =
    (e ≡ Memory)
    ⊎ ((e ≡ OutOfSpec S2) × ((c.descriptor ≡ None) ⊎ IsNegative c.num_values ⊎ IsNegative c.total_compressed_size ⊎ LiesOutside size (chunk_view c)))
    ⊎ ((e ≡ NotYetImplemented N1) × (c.codec ≢ pos 0))
    ⊎ ((e ≡ NotYetImplemented N3) × (¬ IsHere (chunk_view c).file_path))
