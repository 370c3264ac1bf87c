-- Why the columns of a group are refused though their pages may be read: S9 and S10 (Dremel paper, "Record assembly").
use Rattle.std.specs.Prelude.{◌≡◌, ◌≢◌, ◌⊎◌, ℕ, ◌<◌, List, [], ◌∷◌, ◌++◌, length, map, All, is_some, nat_eq, Option, Some, None, IfSome}
use Rattle.shredding.specs.Local.{MayFollow}
use Rattle.shredding.specs.Shape.{LeafType, Way}
use Rattle.shredding.specs.Share.{ColumnsAgree}
use Rattle.shredding.specs.Shred.{Triple}
use Rattle.shredding.specs.Slot.{Value}
use Rattle.pq_metadata.specs.Header.{Header, data_page_2}
use Rattle.pq_tree.specs.Tree.{Leaf, max_definition}
use Rattle.pq_files.specs.Chunk.{RawPage, HasEntries, count_in}
use Rattle.pq_files.specs.Page.{Encoding, dictionary, HasEncoding, rows_in, values_in}
use Rattle.shredding.specs.Laws.{BeginsRow}
use Rattle.pq_files.specs.PageReasons.{Reaches, Comes, IsRead, EncodingOfEntries, ShowsPairs, HasPairs, called_by, IsOutside}
use Rattle.pq_files.specs.Prefixes.{BeginsValues}
use Rattle.pq_files.specs.Reasons.{AnyOf}

-- ---- what can be read of a page

-- its levels, from the front on: it begins with a row, and its encodings are read
pub record ReadsPairs (l : Leaf) (p : RawPage) (ts : List Triple) : Type 0 where
  pub encoding : Encoding
  pub has_encoding : HasEncoding p.header encoding
  pub is_read : IsRead l encoding
  pub shows : ShowsPairs l p ts
  pub begins_row : BeginsRow ts

abbrev pub without_value : Triple → Triple
without_value t = record { repetition = t.repetition; definition = t.definition; value = None }

-- and with its values, each of which is one of the leaf type
pub record ReadsTriples (t : LeafType) (l : Leaf) (entries : Option (List Value)) (p : RawPage) (ts : List Triple) : Type 0 where
  pub pairs : ReadsPairs l p (map without_value ts)
  pub present : All (λ x. is_some x.value ≡ nat_eq x.definition (max_definition l)) ts
  pub called : ℕ
  pub calls : (all : List Triple) → HasPairs l p all → called ≡ called_by l all
  pub begins : BeginsValues pairs.encoding l entries called pairs.shows.sections.values (values_in ts)
  pub inside : All (λ v. ¬ IsOutside t l.physical v) (values_in ts)

-- ---- what can be read of a column

-- pages one after another, each to its end
abbrev pub WholePages : (RawPage → List Triple → Type 0) → List RawPage → List Triple → Type 0
WholePages R [] ts = ts ≡ []
WholePages R (p ∷ ps) ts = (first : List Triple) × (others : List Triple) × R p first × (length first ≡ count_in p.header) × WholePages R ps others × (ts ≡ first ++ others)

-- Of n values in the bytes, behind a dictionary page of which Front holds: whole pages, and the front of the next one.
pub record ReadsColumn (Front : Option RawPage → Type 0) (R : RawPage → List Triple → Type 0) (n : ℕ) (bytes : List ℕ) (whole part : List Triple) : Type 0 where
  pub dict : Option RawPage
  pub front : Front dict
  pub pages : List RawPage
  pub m : ℕ
  pub rest : List ℕ
  pub reaches : Reaches n bytes dict pages m rest
  pub placed : All (λ p. HasEncoding p.header dictionary → dict ≢ None) pages
  pub are : WholePages R pages whole
  pub next : (part ≡ []) ⊎ ((p : RawPage) × Comes n bytes dict pages p × R p part)

abbrev pub MayHold : Option RawPage → Type 0
MayHold None = Unit {0}
MayHold (Some p) = EncodingOfEntries p.header

-- its levels alone
abbrev pub ShowsColumn : Leaf → ℕ → List ℕ → List Triple → List Triple → Type 0
ShowsColumn l n bytes whole part = ReadsColumn MayHold (ReadsPairs l) n bytes whole part

-- the entries of its dictionary page, each of which is one of the leaf type
abbrev pub ReadsEntries : LeafType → Leaf → Option (List Value) → Option RawPage → Type 0
ReadsEntries t l entries dict = HasEntries l dict entries × IfSome entries (All (λ v. ¬ IsOutside t l.physical v))

-- with its values
abbrev pub HasTriples : LeafType → Leaf → Option (List Value) → ℕ → List ℕ → List Triple → List Triple → Type 0
HasTriples t l entries n bytes whole part = ReadsColumn (ReadsEntries t l entries) (ReadsTriples t l entries) n bytes whole part

-- ---- row counts

abbrev pub CountsOtherwise : Header → List Triple → Type 0
CountsOtherwise (data_page_2 h) ts = h.num_rows ≢ rows_in ts
CountsOtherwise _ ts = ⊥

-- a page of version 2 says another number of rows than begin in it
pub record S9Page (l : Leaf) (n : ℕ) (bytes : List ℕ) : Type 0 where
  pub dict : Option RawPage
  pub before : List RawPage
  pub page : RawPage
  pub comes : Comes n bytes dict before page
  pub pairs : List Triple
  pub has : HasPairs l page pairs
  pub otherwise : CountsOtherwise page.header pairs

-- a column that can be read to its end has another number of rows than its group
pub record S9End (t : LeafType) (l : Leaf) (rows n : ℕ) (bytes : List ℕ) : Type 0 where
  pub entries : Option (List Value)
  pub triples : List Triple
  pub reads : HasTriples t l entries n bytes triples []
  pub to_end : reads.m ≡ 0
  pub otherwise : rows_in triples ≢ rows

-- more rows begin in what can be read of it
pub record S9Part (t : LeafType) (l : Leaf) (rows n : ℕ) (bytes : List ℕ) : Type 0 where
  pub entries : Option (List Value)
  pub whole : List Triple
  pub part : List Triple
  pub reads : HasTriples t l entries n bytes whole part
  pub more : rows < rows_in (whole ++ part)

abbrev pub S9 : LeafType → Leaf → ℕ → ℕ → List ℕ → Type 0
S9 t l rows n bytes = S9Page l n bytes ⊎ S9End t l rows n bytes ⊎ S9Part t l rows n bytes

-- ---- levels that no rows have

-- a column of a field in a group: the way to its leaf, and a chunk of so many values in the bytes
pub record ColumnText : Type 0 where
  pub way : Way
  pub leaf : Leaf
  pub n : ℕ
  pub bytes : List ℕ

-- two neighbours that may not follow each other
abbrev pub BreaksIn : Way → List Triple → Type 0
BreaksIn w [] = ⊥
BreaksIn w (t ∷ []) = ⊥
BreaksIn w (t ∷ u ∷ ts) = (¬ MayFollow w t u) ⊎ BreaksIn w (u ∷ ts)

-- the first case: in one column
pub record Breaks (c : ColumnText) : Type 0 where
  pub whole : List Triple
  pub part : List Triple
  pub shows : ShowsColumn c.leaf c.n c.bytes whole part
  pub breaks : BreaksIn c.way (whole ++ part)

abbrev pub BeginsAgain : List Triple → Type 0
BeginsAgain [] = ⊥
BeginsAgain (t ∷ ts) = t.repetition ≡ 0

-- The first rows, each of which is whole: a page ends behind the last one, or another row begins.
pub record HasRows (c : ColumnText) (ts : List Triple) : Type 0 where
  pub whole : List Triple
  pub part : List Triple
  pub shows : ShowsColumn c.leaf c.n c.bytes whole part
  pub behind : List Triple
  pub parts : whole ++ part ≡ ts ++ behind
  pub ends : (ts ≡ whole) ⊎ BeginsAgain behind

-- the second case: two columns differ in what their ways share, in as many first rows
pub record Differ (c d : ColumnText) : Type 0 where
  pub one : List Triple
  pub other : List Triple
  pub one_has : HasRows c one
  pub other_has : HasRows d other
  pub as_many : rows_in one ≡ rows_in other
  pub disagree : ¬ ColumnsAgree c.way d.way one other

abbrev pub AnyDiffer : List ColumnText → Type 0
AnyDiffer [] = ⊥
AnyDiffer (c ∷ cs) = AnyOf (Differ c) cs ⊎ AnyDiffer cs

-- of the columns of one field in one group
abbrev pub S10 : List ColumnText → Type 0
S10 cs = AnyOf Breaks cs ⊎ AnyDiffer cs
