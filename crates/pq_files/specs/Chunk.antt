-- The pages of one column in one group (Parquet format, "Column chunks" and "Data Pages").
use Rattle.std.specs.Prelude.{◌≡◌, ◌⊎◌, ℕ, ◌+◌, ◌<◌, ◌≤◌, pos, List, [], ◌∷◌, ◌++◌, length, flat_map, Option, Some, None}
use Rattle.std.specs.List.{AllZip}
use Rattle.pq_thrift.specs.Grammar.{Spells, depth}
use Rattle.pq_thrift.specs.Value.{Value as Thrift}
use Rattle.shredding.specs.Slot.{Value}
use Rattle.shredding.specs.Shred.{Triple}
use Rattle.pq_metadata.specs.Header.{Header, data_page, data_page_2, dictionary_page, SpellsHeader}
use Rattle.pq_files.specs.Page.{IsPage}
use Rattle.pq_files.specs.Plain.{IsPlain}
use Rattle.pq_numbers.specs.Texts.{Begins}
use Rattle.pq_tree.specs.Tree.{Leaf}

-- ---- pages by their headers

pub record RawPage : Type 0 where
  pub header : Header
  pub body : List ℕ

-- a header and a body, which has as many bytes as the header says
pub record IsPageText (text : List ℕ) (p : RawPage) : Type 0 where
  pub head : List ℕ
  pub «value» : Thrift
  pub spells : Spells head «value»
  pub nests : depth «value» ≤ 128
  pub is_header : SpellsHeader «value» (record { header = p.header; size = length p.body })
  pub parts : text ≡ head ++ p.body

abbrev pub count_in : Header → ℕ
count_in (data_page h) = h.num_values
count_in (data_page_2 h) = h.num_values
count_in (dictionary_page h) = h.num_values

abbrev pub IsData : Header → Type 0
IsData (data_page h) = Unit {0}
IsData (data_page_2 h) = Unit {0}
IsData (dictionary_page h) = ⊥

-- Data pages one after another, as long as values are to come: with n to come at first, m are still to come behind them.
pub data Pages : ℕ → List ℕ → List RawPage → ℕ → List ℕ → Type 0 where
  here : (m : ℕ) (rest : List ℕ) → Pages m rest [] m rest
  page : (n m : ℕ) (text bytes rest : List ℕ) (p : RawPage) (more : List RawPage) →
      IsPageText text p → IsData p.header → 0 < count_in p.header + n → Pages n bytes more m rest →
      Pages (count_in p.header + n) (text ++ bytes) (p ∷ more) m rest

abbrev pub IsDictionary : Header → Type 0
IsDictionary (data_page h) = ⊥
IsDictionary (data_page_2 h) = ⊥
IsDictionary (dictionary_page h) = Unit {0}

-- a dictionary page in front, where values are to come, and what lies behind it
abbrev pub StartsWith : ℕ → List ℕ → Option RawPage → List ℕ → Type 0
StartsWith n bytes None rest = bytes ≡ rest
StartsWith n bytes (Some p) rest = (text : List ℕ) × IsPageText text p × IsDictionary p.header × (0 < n) × (bytes ≡ text ++ rest)

-- the pages of a chunk of n values; bytes behind them are not read
pub record HasPages (n : ℕ) (bytes : List ℕ) (dictionary : Option RawPage) (pages : List RawPage) : Type 0 where
  pub behind : List ℕ
  pub starts : StartsWith n bytes dictionary behind
  pub surplus : List ℕ
  pub are : Pages n behind pages 0 surplus

-- ---- what they hold

pub record Page : Type 0 where
  pub header : Header
  pub triples : List Triple

pub record Chunk : Type 0 where
  pub entries : Option (List Value)
  pub pages : List Page

-- the entries of a dictionary page, which stand plain
abbrev pub AreEntriesOf : Leaf → Header → List ℕ → List Value → Type 0
AreEntriesOf l (dictionary_page h) body entries = (h.num_values ≡ length entries) × ((h.encoding ≡ pos 0) ⊎ (h.encoding ≡ pos 2)) × Begins (IsPlain l.physical) body entries
AreEntriesOf l _ body entries = ⊥

abbrev pub HasEntries : Leaf → Option RawPage → Option (List Value) → Type 0
HasEntries l None None = Unit {0}
HasEntries l (Some p) (Some entries) = AreEntriesOf l p.header p.body entries
HasEntries l _ _ = ⊥

pub record IsPageIn (l : Leaf) (entries : Option (List Value)) (raw : RawPage) (p : Page) : Type 0 where
  pub header : p.header ≡ raw.header
  pub is : IsPage l entries raw.header raw.body p.triples

pub record Holds (l : Leaf) (dictionary : Option RawPage) (pages : List RawPage) (c : Chunk) : Type 0 where
  pub entries : HasEntries l dictionary c.entries
  pub are : AllZip (IsPageIn l c.entries) pages c.pages

-- ---- both

pub record IsChunk (l : Leaf) (n : ℕ) (bytes : List ℕ) (c : Chunk) : Type 0 where
  pub dictionary : Option RawPage
  pub pages : List RawPage
  pub has : HasPages n bytes dictionary pages
  pub holds : Holds l dictionary pages c

abbrev pub triples_of : Chunk → List Triple
triples_of c = flat_map (λ p. p.triples) c.pages
