-- What passes the numbers that a footer has fields for: 2^63 - 1 (Parquet format, parquet.thrift: the fields of type i64).
use Rattle.std.specs.Prelude.{◌≡◌, ◌⊎◌, ℕ, ◌+◌, ◌<◌, List, ◌∷◌, ◌++◌, length, sum_by}
use Rattle.pq_tree.specs.declared.version.Version.{Version}
use Rattle.pq_tree.specs.Tree.{Leaf}
use Rattle.pq_files.specs.FooterRecord.{ColumnChunk, RowGroup}
use Rattle.pq_files.specs.Layout.{OutPage, OutChunk, OutGroup}
use Rattle.pq_files.specs.Packed.{HasDictionary, ArePages, AreChunks, AreGroups}
use Rattle.pq_files.specs.Room.{max_count}
use Rattle.pq_files.specs.Written.{pairs_in}

-- The bytes of the dictionary page, where there is one, and of the first data pages of a column that begins at a place do.
pub record PagesPass (version : Version) (l : Leaf) (c : OutChunk) (start : ℕ) : Type 0 where
  pub dictionary : List ℕ
  pub has_dictionary : HasDictionary l c.entries dictionary
  pub first : List OutPage
  pub rest : List OutPage
  pub parts : c.pages ≡ first ++ rest
  pub text : List ℕ
  pub are : ArePages version l c.entries first text
  pub passes : max_count < start + length dictionary + length text

-- the pairs of a column, or the bytes of its pages
abbrev pub ColumnPasses : Version → Leaf → OutChunk → ℕ → Type 0
ColumnPasses version l c start = (max_count < pairs_in c) ⊎ PagesPass version l c start

-- One of the columns of a group that begins at a place does, behind those before it.
pub record SomeColumnPasses (version : Version) (ls : List Leaf) (cs : List OutChunk) (start : ℕ) : Type 0 where
  pub first_leaves : List Leaf
  pub l : Leaf
  pub other_leaves : List Leaf
  pub leaves : ls ≡ first_leaves ++ (l ∷ other_leaves)
  pub first : List OutChunk
  pub c : OutChunk
  pub others : List OutChunk
  pub chunks : cs ≡ first ++ (c ∷ others)
  pub text : List ℕ
  pub metas : List ColumnChunk
  pub are : AreChunks version first_leaves first start text metas
  pub passes : ColumnPasses version l c (start + length text)

-- A group behind others: the rows of all, the pairs of one of its columns, or the bytes of the pages as they follow PAR1.
abbrev pub GroupPasses : Version → List Leaf → List OutGroup → OutGroup → Type 0
GroupPasses version ls groups g =
    (max_count < sum_by (λ x. x.rows) groups + g.rows)
    ⊎ ((pages : List ℕ) × (row_groups : List RowGroup) × AreGroups version ls groups 0 4 pages row_groups × SomeColumnPasses version ls g.chunks (4 + length pages))
