-- The fields of a group as they are opened, and the arrays that come of them.
use Rattle.std.specs.Prelude.{◌≡◌, ◌⊎◌, ℕ, suc, ◌+◌, ◌≤◌, pos, List, [], ◌∷◌, ◌++◌, map, sum_by, Option, Some, None}
use Rattle.std.specs.List.{AllZip}
use Rattle.columns_core.specs.Tree.{FieldTree, FieldTrees, no_fields, more_fields}
use Rattle.columns_slots.specs.Slots.{first_len}
use Rattle.columns_slots.specs.Tree.{ArrayTrees, no_arrays, more_arrays}
use Rattle.pq_metadata.specs.Footer.{GroupMeta, ChunkMeta}
use Rattle.pq_tree.specs.Physical.{number_of_physical}
use Rattle.pq_tree.specs.Tree.{Leaf}
use Rattle.pq_files.specs.Carried.{start_of}
use Rattle.pq_numbers.specs.Texts.{IsAt}
use Rattle.pq_headline.specs.Lists.{AllZip3}
use Rattle.pq_headline.specs.Arrays.{array_at}
use Rattle.pq_headline.specs.Openings.{AreAlike, Opening, IsItem, Assembled, leaf_levels}
use Rattle.pq_pages.specs.Outcomes.{Outcome}
use Rattle.pq_pages.specs.ReadsChunk.{ReadsChunk}

-- ---- chunks in their places

pub record ChunkIsPlaced (place : ℕ) (m : ChunkMeta) (l : Leaf) : Type 0 where
  pub here : (m.file_path ≡ None) ⊎ (m.file_path ≡ Some [])
  pub physical : m.physical ≡ pos (number_of_physical l.physical)
  pub codec : m.codec ≡ pos 0
  pub num_values : ℕ
  pub has_num_values : m.num_values ≡ pos num_values
  pub start : ℕ
  pub starts : start_of m.data_page m.dictionary_page ≡ pos start
  pub behind_magic : 4 ≤ start
  pub size : ℕ
  pub has_size : m.size ≡ pos size
  pub before_footer : start + size ≤ place

pub record GroupIsPlaced (place : ℕ) (ls : List Leaf) (g : GroupMeta) : Type 0 where
  pub rows : ℕ
  pub has_rows : g.num_rows ≡ pos rows
  pub chunks : AllZip (ChunkIsPlaced place) g.chunks ls

-- ---- fields, opened

-- the reader of one chunk
pub record Reads (bytes : List ℕ) (place : ℕ) (m : ChunkMeta) (l : Leaf) (outcomes : List Outcome) : Type 0 where
  pub placed : ChunkIsPlaced place m l
  pub text : List ℕ
  pub is_there : IsAt bytes placed.start placed.size text
  -- a header may be as long as the chunk
  pub reads : ReadsChunk placed.size (leaf_levels l) placed.num_values text outcomes

-- the reader of a field: its leaves are those of its columns, no more and no less
pub record OpensField (bytes : List ℕ) (place : ℕ) (rows : ℕ) (chunk_size : Option ℕ) (f : FieldTree) (ls : List Leaf) (ms : List ChunkMeta) (o : Opening) : Type 0 where
  pub field : o.field ≡ f
  pub leaves_are : o.leaves ≡ ls
  pub alike : AreAlike f ls
  pub rows_are : o.rows ≡ rows
  pub chunk_size_is : o.chunk_size ≡ chunk_size
  pub read : AllZip3 (Reads bytes place) ms ls o.outcomes

-- each field with the chunks of its own columns
abbrev pub AreOpened : List ℕ → ℕ → ℕ → Option ℕ → FieldTrees → List Leaf → List ChunkMeta → List Opening → Type 0
AreOpened bytes place rows n no_fields ls ms [] = (ls ≡ []) × (ms ≡ [])
AreOpened bytes place rows n (more_fields f fs) ls ms (o ∷ os) =
    (mine : List Leaf) × (others : List Leaf) × (my_metas : List ChunkMeta) × (other_metas : List ChunkMeta)
    × (ls ≡ mine ++ others) × (ms ≡ my_metas ++ other_metas)
    × OpensField bytes place rows n f mine my_metas o × AreOpened bytes place rows n fs others other_metas os
AreOpened bytes place rows n _ ls ms _ = ⊥

-- ---- arrays side by side

-- one array for each opened field, behind so many rows
abbrev pub AreItems : ℕ → List Opening → ArrayTrees → Type 0
AreItems before [] no_arrays = Unit {0}
AreItems before (o ∷ os) (more_arrays c cs) = IsItem o before c × AreItems before os cs
AreItems before _ _ = ⊥

-- so many rows are in chunks
abbrev pub rows_in_chunks : List ArrayTrees → ℕ
rows_in_chunks chunks = sum_by first_len chunks

-- chunk after chunk
abbrev pub AreChunksFrom : ℕ → List Opening → List ArrayTrees → Type 0
AreChunksFrom before os [] = Unit {0}
AreChunksFrom before os (cs ∷ chunks) = AreItems before os cs × AreChunksFrom (before + first_len cs) os chunks

-- the arrays at each place are the whole field
abbrev pub AreAssembled : ℕ → List Opening → List ArrayTrees → Type 0
AreAssembled i [] chunks = Unit {0}
AreAssembled i (o ∷ os) chunks = Assembled o (map (array_at i) chunks) × AreAssembled (suc i) os chunks
