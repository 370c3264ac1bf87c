-- What the pages of a chunk are, and why one is refused (Parquet format, "Column chunks").
use Rattle.std.specs.Prelude.{◌≡◌, ◌≢◌, ◌⊎◌, ◌<◌, ◌≤◌, ℕ, List, ◌++◌, length, All, Option, None, IfSome}
use Rattle.columns_base.specs.declared.error.Error.{Error}
use Rattle.columns_base.specs.declared.error.Error.TheVariants.{OutOfSpec, NotYetImplemented}
use Rattle.columns_base.specs.declared.error.S.TheVariants.{S3}
use Rattle.columns_base.specs.declared.error.N.TheVariants.{N4}
use Rattle.pq_metadata.specs.Header.{Header, data_page, data_page_2, dictionary_page}
use Rattle.pq_files.specs.Chunk.{RawPage, HasPages}
use Rattle.pq_files.specs.Page.{HasEncoding, dictionary as by_dictionary}
use Rattle.pq_files.specs.PageReasons.{Reaches, IsNext, EncodingOfEntries, N4Next, S3 as PagesAreWrong}
use Rattle.pq_thrift.specs.Grammar.{Spells}
use Rattle.pq_thrift.specs.Value.{Value}
use Rattle.pq_pages.specs.DataPages.{IsEncodingNumber}
use Rattle.pq_pages.specs.Outcomes.{Levels, Outcome, fails, outcomes_of, IsGiven, IsOfLevels}

-- ---- why a page is refused

-- values are to come, and behind the pages so far stands a struct of more than so many bytes
pub record HeaderIsLong (max n : ℕ) (bytes : List ℕ) : Type 0 where
  pub dict : Option RawPage
  pub pages : List RawPage
  pub m : ℕ
  pub rest : List ℕ
  pub reaches : Reaches n bytes dict pages m rest
  pub some : 0 < m
  pub head : List ℕ
  pub behind : List ℕ
  pub parts : rest ≡ head ++ behind
  pub «value» : Value
  pub spells : Spells head «value»
  pub long : max < length head

-- a data page in an encoding that has no name, or entries of a dictionary in another encoding than PLAIN and PLAIN_DICTIONARY
abbrev pub IsUnnamed : Header → Type 0
IsUnnamed (data_page h) = ¬ IsEncodingNumber h.encoding
IsUnnamed (data_page_2 h) = ¬ IsEncodingNumber h.encoding
IsUnnamed (dictionary_page h) = ¬ EncodingOfEntries (dictionary_page h)

-- values are to come, and behind the pages so far stands such a page
pub record HasUnnamed (n : ℕ) (bytes : List ℕ) : Type 0 where
  pub dict : Option RawPage
  pub pages : List RawPage
  pub m : ℕ
  pub rest : List ℕ
  pub reaches : Reaches n bytes dict pages m rest
  pub some : 0 < m
  pub page : RawPage
  pub next : IsNext rest page
  pub unnamed : IsUnnamed page.header

-- ---- what a reader gives

-- The outcomes are the chunk's pages. Entries are in an encoding that is read, and pages of indices have a dictionary.
pub record AreItsPages (levels : Levels) (n : ℕ) (text : List ℕ) (outcomes : List Outcome) : Type 0 where
  pub dict : Option RawPage
  pub pages : List RawPage
  pub are : outcomes ≡ outcomes_of levels dict pages
  pub has : HasPages n text dict pages
  pub entries : IfSome dict (λ p. EncodingOfEntries p.header)
  pub named : All (λ p. IsUnnamed p.header → ⊥) pages
  pub indexed : All (λ p. HasEncoding p.header by_dictionary → dict ≢ None) pages

-- Of a chunk of n values in the text, whose headers take at most max bytes: where none fails they are its pages, of a column with these greatest levels; and each failure is by its condition.
pub record ReadsChunk (max : ℕ) (levels : Levels) (n : ℕ) (text : List ℕ) (outcomes : List Outcome) : Type 0 where
  pub pages : All IsGiven outcomes → AreItsPages levels n text outcomes
  pub wrong : All (λ o. o ≡ fails (OutOfSpec S3) → PagesAreWrong n text ⊎ HeaderIsLong max n text) outcomes
  pub unread : All (λ o. o ≡ fails (NotYetImplemented N4) → N4Next n text ⊎ HasUnnamed n text) outcomes
  pub of_levels : All (IsOfLevels levels) outcomes
  pub no_other : All (λ o. (e : Error) → o ≡ fails e → (e ≡ OutOfSpec S3) ⊎ (e ≡ NotYetImplemented N4)) outcomes

-- a header is not longer than the chunk: where a reader allows so many bytes, S3 is that of the pages alone
abbrev pub NoHeaderIsLonger : Type 0
NoHeaderIsLonger = (max n : ℕ) (text : List ℕ) → length text ≤ max → ¬ HeaderIsLong max n text
