-- The sections of a data page's body (Parquet format, "Data Pages").
use Rattle.std.specs.Prelude.{◌≡◌, ◌↔◌, ℕ, pos, List, ◌++◌, length}
use Rattle.pq_tree.specs.declared.types.DataPageHeader.{DataPageHeader}
use Rattle.pq_tree.specs.declared.types.DataPageHeader.TheVariants.{V1, V2}
use Rattle.pq_tree.specs.declared.types.DataPageHeaderV2.{DataPageHeaderV2}
use Rattle.pq_tree.specs.declared.types.TypedPageHeader.TheVariants as T
use Rattle.pq_tree.specs.Counted.{IsCounted}
use Rattle.pq_tree.specs.Tree.{Leaf, max_repetition, max_definition}
use Rattle.pq_tree.specs.Views.{typed_view}
use Rattle.pq_files.specs.Levels.{IsBehindLength}
use Rattle.pq_files.specs.Page.{Sections, IsSplit}
use Rattle.pq_pages.specs.Outcomes.{Levels}

-- three sections as one
abbrev pub sections : List ℕ → List ℕ → List ℕ → Sections
sections repetition definition values = record { repetition = repetition; definition = definition; values = values }

-- version 1: each level section behind its length, and none where the greatest level is 0
pub record Splits1 (levels : Levels) (body : List ℕ) (s : Sections) : Type 0 where
  pub behind : List ℕ
  pub repetition : IsBehindLength levels.repetition body s.repetition behind
  pub definition : IsBehindLength levels.definition behind s.definition s.values

-- version 2: by the lengths that the header states
pub record Splits2 (h : DataPageHeaderV2) (body : List ℕ) (s : Sections) : Type 0 where
  pub repetition : pos (length s.repetition) ≡ h.repetition_levels_byte_length
  pub definition : pos (length s.definition) ≡ h.definition_levels_byte_length
  pub parts : body ≡ s.repetition ++ (s.definition ++ s.values)

-- in a column with these greatest levels
abbrev pub Splits : DataPageHeader → Levels → List ℕ → Sections → Type 0
Splits (V1 h) levels body s = Splits1 levels body s
Splits (V2 h) levels body s = Splits2 h body s

-- For each leaf with these levels, and a header without negative counts, that is the split of a page in a file.
abbrev pub SplitsAreOfPages : Type 0
SplitsAreOfPages =
    (l : Leaf) (h : DataPageHeader) (levels : Levels) (body : List ℕ) (s : Sections) → max_repetition l ≡ levels.repetition → max_definition l ≡ levels.definition → IsCounted (T.Data h) → Splits h levels body s ↔ IsSplit l (typed_view (T.Data h)) body s
