-- What a source of pages gives (Parquet format, "Column chunks", "Data Pages" and "Dictionary Page").
use Rattle.std.specs.Prelude.{◌≡◌, ◌⊎◌, ◌≤ℤ◌, ℕ, pos, List, [], ◌∷◌, map, Option, Some, None, Result, Ok, Err}
use Rattle.columns_base.specs.declared.error.Error.{Error}
use Rattle.columns_base.specs.declared.error.Error.TheVariants.{Memory}
use Rattle.pq_tree.specs.declared.types.Descriptor.{Descriptor}
use Rattle.pq_tree.specs.declared.types.TypedPageHeader.TheVariants as T
use Rattle.pq_tree.specs.Views.{natural_part, typed_view}
use Rattle.pq_files.specs.Chunk.{RawPage, count_in}
use Rattle.pq_pages.specs.declared.page.Page.{Page}
use Rattle.pq_pages.specs.declared.page.Page.TheVariants.{Data, Dict}
use Rattle.pq_pages.specs.DataPages.{DataPageValue}

-- the greatest levels of a column
pub record Levels : Type 0 where
  pub repetition : ℕ
  pub definition : ℕ

abbrev pub levels_in : Descriptor → Levels
levels_in d = record { repetition = natural_part d.max_rep_level; definition = natural_part d.max_def_level }

-- neither is negative
pub record HasLevels (d : Descriptor) : Type 0 where
  pub definition : pos 0 ≤ℤ d.max_def_level
  pub repetition : pos 0 ≤ℤ d.max_rep_level

pub data Outcome : Type 0 where
  -- a data page of a column with these greatest levels
  gives_page : RawPage → Levels → Outcome
  -- a dictionary page of so many entries, plain in these bytes
  gives_dictionary : ℕ → List ℕ → Outcome
  -- an error in the place of a page
  fails : Error → Outcome

-- a page, and no error
abbrev pub IsGiven : Outcome → Type 0
IsGiven (gives_page p levels) = Unit {0}
IsGiven (gives_dictionary n body) = Unit {0}
IsGiven (fails e) = ⊥

-- ---- pages in memory

-- what the header of a data page states and its body, as in a file
abbrev pub raw_page : DataPageValue → RawPage
raw_page p = record { header = typed_view (T.Data p.header); body = p.buffer }

abbrev pub page_shown : Page → Outcome
page_shown (Data p) = gives_page (raw_page p) (levels_in p.descriptor)
page_shown (Dict p) = gives_dictionary p.num_values p.buffer.items

abbrev pub outcome_of : Result Page Error → Outcome
outcome_of (Ok p) = page_shown p
outcome_of (Err e) = fails e

-- ---- one step

-- it takes the first one, which is no error, and lends it; at the end it lends nothing
abbrev pub Takes : List Outcome → List Outcome → Option Outcome → Type 0
Takes [] after lent = (after ≡ []) × (lent ≡ None)
Takes (o ∷ os) after lent = IsGiven o × (after ≡ os) × (lent ≡ Some o)

-- What one step of a source answers, and with which outcomes before and after it, and what it then lends. An error is the first outcome. Want of memory is free, and takes none.
abbrev pub Advances : Result (Unit {0}) Error → List Outcome → List Outcome → Option Outcome → Type 0
Advances (Ok done) before after lent = Takes before after lent
Advances (Err e) before after lent = (lent ≡ None) × (((e ≡ Memory) × (after ≡ before)) ⊎ (before ≡ fails e ∷ after))

-- ---- the pages of a chunk

-- a dictionary page in front, if there is one, and data pages of a column with these greatest levels
abbrev pub outcomes_of : Levels → Option RawPage → List RawPage → List Outcome
outcomes_of levels None pages = map (λ p. gives_page p levels) pages
outcomes_of levels (Some dictionary) pages = gives_dictionary (count_in dictionary.header) dictionary.body ∷ map (λ p. gives_page p levels) pages

-- of a column with these greatest levels
abbrev pub IsOfLevels : Levels → Outcome → Type 0
IsOfLevels levels (gives_page p own) = own ≡ levels
IsOfLevels levels (gives_dictionary n body) = Unit {0}
IsOfLevels levels (fails e) = Unit {0}
