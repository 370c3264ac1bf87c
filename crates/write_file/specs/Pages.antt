-- The pages that a column of a group still gives (Parquet format, "Column chunks").
use Rattle.std.specs.Prelude.{◌≡◌, ◌⊎◌, ◌<◌, ◌^◌, List, [], ◌∷◌, ◌++◌, length, ℕ, Option, Some, None, Result, Ok, Err}
use Rattle.shredding.specs.Slot.{Value}
use Rattle.columns_base.specs.declared.error.Error.{Error}
use Rattle.pq_tree.specs.declared.types.Encoding.{Encoding as RustEncoding}
use Rattle.pq_tree.specs.declared.types.Encoding.TheVariants as E
use Rattle.pq_tree.specs.declared.version.Version.{Version}
use Rattle.pq_tree.specs.Tree.{Leaf}
use Rattle.pq_files.specs.Layout.{OutPage, OutChunk}
use Rattle.pq_files.specs.Page.{Encoding, plain, dictionary, delta, delta_length}
use Rattle.pq_thrift.specs.Written.{IsWritten}
use Rattle.pq_pages.specs.DataPages.{DataPageValue}
use Rattle.pq_pages.specs.Denotes.{IsDictFor, IsPageFor}
use Rattle.pq_pages.specs.HeaderValue.{body_of, page_value}
use Rattle.pq_pages.specs.declared.page.DictPage.{DictPage}
use Rattle.pq_pages.specs.declared.page.Page.{Page}

-- one more page in front
abbrev pub with_page : OutPage → OutChunk → OutChunk
with_page o c = record { entries = c.entries; pages = o ∷ c.pages; statistics = c.statistics }

-- The dictionary page of these entries, with a count and a body that the fields of a header are not too small for; none where there are no entries.
abbrev pub IsDictionaryOf : Leaf → Option (List Value) → Option DictPage → Type 0
IsDictionaryOf l None d = d ≡ None
IsDictionaryOf l (Some entries) d = (page : DictPage) × (d ≡ Some page) × IsDictFor l.physical entries page × (page.num_values < 2 ^ 31) × (length page.buffer.items < 2 ^ 31)

-- how many entries the dictionary page has, where there is one
abbrev pub entry_count : Option (List Value) → ℕ
entry_count None = 0
entry_count (Some entries) = length entries

-- A data page with pairs that denotes the page of the file, in a column with these entries, and with a body that the fields of a header are not too small for.
pub record IsGiven (version : Version) (l : Leaf) (entries : Option (List Value)) (o : OutPage) (page : DataPageValue) : Type 0 where
  pub is : IsPageFor version l entries o page
  pub some : 0 < length o.triples
  pub fits : length page.buffer < 2 ^ 31

-- What comes next where these data pages of a chunk are still to come: the first of them, or none where there is none.
abbrev pub GivesNext : {S : Type 0} → (S → Version → Leaf → OutChunk → Type 0) → Version → Leaf → OutChunk → Option (Result DataPageValue Error) → S → Type 0
GivesNext gives version l c None now = c.pages ≡ []
GivesNext gives version l c (Some (Ok page)) now = (o : OutPage) × (rest : OutChunk) × (c ≡ with_page o rest) × IsGiven version l c.entries o page × gives now version l rest
GivesNext gives version l c (Some (Err e)) now = Unit {0}

-- A page of the file is this one behind its header, as it is written.
pub record IsHeaded (page : Page) (text : List ℕ) : Type 0 where
  pub head : List ℕ
  pub parts : text ≡ head ++ body_of page
  pub is : IsWritten head (page_value page)

-- the encodings that data pages are written in
abbrev pub encoding_view : RustEncoding → Option Encoding
encoding_view E.Plain = Some plain
encoding_view E.DeltaBinaryPacked = Some delta
encoding_view E.DeltaLengthByteArray = Some delta_length
encoding_view E.RleDictionary = Some dictionary
encoding_view e = None

-- for each column of a group
abbrev pub AllGive : {S : Type 0} → (S → Version → Leaf → OutChunk → Type 0) → Version → List Leaf → List OutChunk → List S → Type 0
AllGive gives version [] [] [] = Unit {0}
AllGive gives version (l ∷ ls) (c ∷ cs) (s ∷ ss) = gives s version l c × (0 < length c.pages) × AllGive gives version ls cs ss
AllGive gives version _ _ _ = ⊥

-- a page of one of the columns may be refused so
abbrev pub SomeRefuses : {S : Type 0} → (S → Error → Type 0) → List S → Error → Type 0
SomeRefuses refuses [] e = ⊥
SomeRefuses refuses (s ∷ ss) e = refuses s e ⊎ SomeRefuses refuses ss e
