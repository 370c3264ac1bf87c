-- A file, and what it carries (Parquet format, "File format", "Metadata" and "Column chunks").
use Rattle.std.specs.Prelude.{◌≡◌, ◌⊎◌, ℕ, ◌+◌, ◌≤◌, ℤ, pos, List, [], ◌∷◌, map, All, Option, Some, None, cond, ◌&&◌, nat_lt, nat_le}
use Rattle.std.specs.List.{AllZip}
use Rattle.shredding.specs.Slot.{Value}
use Rattle.shredding.specs.Shred.{Triple}
use Rattle.pq_files.specs.Chunk.{Chunk, IsChunk, triples_of}
use Rattle.pq_metadata.specs.Frame.{IsFramed}
use Rattle.pq_metadata.specs.Footer.{ChunkMeta, GroupMeta, Key}
use Rattle.pq_metadata.specs.Metadata.{IsFooterText}
use Rattle.pq_files.specs.Page.{rows_in}
use Rattle.pq_tree.specs.Physical.{number_of_physical}
use Rattle.pq_numbers.specs.Texts.{Begins, IsAt}
use Rattle.pq_tree.specs.Tree.{Schema, Leaf, columns_of}

-- ---- chunks

-- where the chunk starts: at the dictionary page, where that lies between place 4 and the data pages
abbrev pub start_of : ℤ → Option ℤ → ℤ
start_of (pos first) (Some (pos dictionary)) = cond (nat_le 4 dictionary && nat_lt dictionary first) (pos dictionary) (pos first)
start_of first _ = first

-- The chunk lies in the file between place 4 and the footer, is of the leaf's type, and is not compressed.
pub record IsChunkOf (bytes : List ℕ) (footer : ℕ) (m : ChunkMeta) (l : Leaf) (c : Chunk) : Type 0 where
  pub here : (m.file_path ≡ None) ⊎ (m.file_path ≡ Some [])
  pub physical : m.physical ≡ pos (number_of_physical l.physical)
  pub codec : m.codec ≡ pos 0
  pub num_values : ℕ
  pub has_num_values : m.num_values ≡ pos num_values
  pub start : ℕ
  pub starts : start_of m.data_page m.dictionary_page ≡ pos start
  pub behind_magic : 4 ≤ start
  pub size : ℕ
  pub has_size : m.size ≡ pos size
  pub before_footer : start + size ≤ footer
  pub text : List ℕ
  pub is_there : IsAt bytes start size text
  pub is : IsChunk l num_values text c

-- ---- groups

-- one chunk for each leaf
abbrev pub AreChunks : List ℕ → ℕ → List ChunkMeta → List Leaf → List Chunk → Type 0
AreChunks bytes footer [] [] [] = Unit {0}
AreChunks bytes footer (m ∷ ms) (l ∷ ls) (c ∷ cs) = IsChunkOf bytes footer m l c × AreChunks bytes footer ms ls cs
AreChunks bytes footer _ _ _ = ⊥

pub record IsGroup (bytes : List ℕ) (footer : ℕ) (leaves : List Leaf) (m : GroupMeta) (rows : ℕ) (chunks : List Chunk) : Type 0 where
  pub has_rows : m.num_rows ≡ pos rows
  pub are : AreChunks bytes footer m.chunks leaves chunks
  -- each column has this number of rows
  pub counted : All (λ c. rows_in (triples_of c) ≡ rows) chunks

-- a group's rows, and its columns by their pages
pub record GroupPages : Type 0 where
  pub rows : ℕ
  pub chunks : List Chunk

-- The file, down to its pages.
pub record HoldsPages (bytes : List ℕ) (tree : Schema) (keys : List Key) (groups : List GroupPages) : Type 0 where
  pub place : ℕ
  pub footer : List ℕ
  pub framed : IsFramed bytes place footer
  pub metas : List GroupMeta
  pub said : Begins IsFooterText footer (record { schema = tree; groups = metas; keys = keys })
  pub are : AllZip (λ m g. IsGroup bytes place (columns_of tree) m g.rows g.chunks) metas groups

-- ---- what is carried: for each group its rows, and for each column its entries and triples

pub record Column : Type 0 where
  pub entries : Option (List Value)
  pub triples : List Triple

pub record Group : Type 0 where
  pub rows : ℕ
  pub columns : List Column

abbrev pub column_in : Chunk → Column
column_in c = record { entries = c.entries; triples = triples_of c }

abbrev pub group_in : GroupPages → Group
group_in g = record { rows = g.rows; columns = map column_in g.chunks }

abbrev pub Carried : List ℕ → Schema → List Key → List Group → Type 0
Carried bytes tree keys groups = (paged : List GroupPages) × HoldsPages bytes tree keys paged × (groups ≡ map group_in paged)

-- the bytes carry nothing at all
abbrev pub IsNotCarried : List ℕ → Type 0
IsNotCarried bytes = (tree : Schema) (keys : List Key) (groups : List Group) → Carried bytes tree keys groups → ⊥
