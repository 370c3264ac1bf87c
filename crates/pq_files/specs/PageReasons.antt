-- Why the pages of a column are refused: S3, N4, S4, S5, N8, S6 and S7.
-- Three parts of N4 are not stated here: that a column of a dictionary type has a page without dictionary encoding, and that a column of a field
-- that nests has a page of deltas, which speak of Arrow types, so that the calls that know the field refuse them; and that a page with selected
-- rows is decoded, which is a matter of a call. So is a header past a given size, a part of S3.
use Rattle.std.specs.Prelude.{◌≡◌, ◌≢◌, ◌⊎◌, ℕ, ◌<◌, ◌≤◌, pos, List, [], ◌∷◌, length, map, All, Contains, Option, None, count_by, nat_eq}
use Rattle.pq_numbers.specs.Texts.{Begins}
use Rattle.shredding.specs.Shape.{LeafType}
use Rattle.shredding.specs.Shred.{Triple}
use Rattle.shredding.specs.Slot.{Value}
use Rattle.pq_metadata.specs.Header.{Header, data_page, data_page_2, dictionary_page}
use Rattle.pq_metadata.specs.HeaderText.{IsOfOtherType}
use Rattle.pq_tree.specs.Physical.{Physical, boolean, int32 as p_int32, int64, byte_array}
use Rattle.pq_tree.specs.Tree.{Leaf, max_definition, max_repetition}
use Rattle.pq_files.specs.Chunk.{RawPage, IsPageText, IsData, IsDictionary, StartsWith, Pages, count_in, AreEntriesOf}
use Rattle.pq_files.specs.Levels.{HasLevels}
use Rattle.pq_files.specs.Page.{Encoding, plain, dictionary, delta, delta_length, Sections, IsSplit, HasEncoding, IsSpelled, LevelsAreRuns}
use Rattle.pq_files.specs.Prefixes.{BeginsValues}
use Rattle.pq_files.specs.Stored.{IsStored}

-- ---- pages, as their headers tell of them (Parquet format, "Data Pages")

-- the pages that are taken of a chunk of n values, how many values are still to come, and the bytes behind
pub record Reaches (n : ℕ) (bytes : List ℕ) (dict : Option RawPage) (pages : List RawPage) (m : ℕ) (rest : List ℕ) : Type 0 where
  pub behind : List ℕ
  pub starts : StartsWith n bytes dict behind
  pub are : Pages n behind pages m rest

abbrev pub IsNext : List ℕ → RawPage → Type 0
IsNext rest p = Begins IsPageText rest p

-- a dictionary page that isn't the first page, more values than are to come, or indices without a dictionary
abbrev pub IsOutOfPlace : Option RawPage → List RawPage → ℕ → RawPage → Type 0
IsOutOfPlace dict pages m p =
    (IsDictionary p.header × ((pages ≢ []) ⊎ (dict ≢ None)))
    ⊎ (IsData p.header × ((m < count_in p.header) ⊎ ((dict ≡ None) × HasEncoding p.header dictionary)))

-- values are to come, and behind the pages so far stands none, or one that may not stand there
pub record S3 (n : ℕ) (bytes : List ℕ) : Type 0 where
  pub dict : Option RawPage
  pub pages : List RawPage
  pub m : ℕ
  pub rest : List ℕ
  pub reaches : Reaches n bytes dict pages m rest
  pub some : 0 < m
  pub wrong : (((p : RawPage) → IsNext rest p → ⊥) × (¬ IsOfOtherType rest)) ⊎ ((p : RawPage) × IsNext rest p × IsOutOfPlace dict pages m p)

-- a data page comes in its place, behind others
pub record Comes (n : ℕ) (bytes : List ℕ) (dict : Option RawPage) (pages : List RawPage) (p : RawPage) : Type 0 where
  pub m : ℕ
  pub rest : List ℕ
  pub reaches : Reaches n bytes dict pages m rest
  pub some : 0 < m
  pub next : IsNext rest p
  pub is_data : IsData p.header
  pub fits : count_in p.header ≤ m
  pub has_dictionary : HasEncoding p.header dictionary → dict ≢ None

-- ---- encodings (Parquet format, "Encodings")

-- those that are read of a leaf's column
abbrev pub IsRead : Leaf → Encoding → Type 0
IsRead l plain = Unit {0}
IsRead l dictionary = l.physical ≢ boolean
IsRead l delta = (l.physical ≡ p_int32) ⊎ (l.physical ≡ int64)
IsRead l delta_length = l.physical ≡ byte_array

abbrev pub EncodingOfEntries : Header → Type 0
EncodingOfEntries (dictionary_page h) = (h.encoding ≡ pos 0) ⊎ (h.encoding ≡ pos 2)
EncodingOfEntries _ = ⊥

-- a page whose values or levels are in an encoding that isn't read
abbrev pub N4Page : Leaf → RawPage → Type 0
N4Page l p =
    (IsData p.header × (((e : Encoding) → HasEncoding p.header e → IsRead l e → ⊥) ⊎ (¬ LevelsAreRuns l p.header)))
    ⊎ (IsDictionary p.header × (¬ EncodingOfEntries p.header))

-- behind the pages so far, of a chunk of n values, stands an index page or one of a type that isn't known
pub record N4Next (n : ℕ) (bytes : List ℕ) : Type 0 where
  pub dict : Option RawPage
  pub pages : List RawPage
  pub m : ℕ
  pub rest : List ℕ
  pub reaches : Reaches n bytes dict pages m rest
  pub some : 0 < m
  pub other : IsOfOtherType rest

-- ---- levels (Parquet format, "Nested Encoding")

-- The pairs of levels at the front of a page whose levels are runs, as triples without values: no more than its header counts.
pub record ShowsPairs (l : Leaf) (p : RawPage) (ts : List Triple) : Type 0 where
  pub runs : LevelsAreRuns l p.header
  pub sections : Sections
  pub split : IsSplit l p.header p.body sections
  pub repetitions : HasLevels (max_repetition l) sections.repetition (map (λ t. t.repetition) ts)
  pub definitions : HasLevels (max_definition l) sections.definition (map (λ t. t.definition) ts)
  pub none : All (λ t. t.value ≡ None) ts
  pub few : length ts ≤ count_in p.header

-- all of them
abbrev pub HasPairs : Leaf → RawPage → List Triple → Type 0
HasPairs l p ts = ShowsPairs l p ts × (length ts ≡ count_in p.header)

-- of a data page: a section outside the body, too few levels or a level past its maximum
abbrev pub S4 : Leaf → RawPage → Type 0
S4 l p = IsData p.header × LevelsAreRuns l p.header × ((ts : List Triple) → HasPairs l p ts → ⊥)

-- the page's first pair goes on with a row
pub record GoesOn (l : Leaf) (p : RawPage) : Type 0 where
  pub first : Triple
  pub shows : ShowsPairs l p (first ∷ [])
  pub repeats : 0 < first.repetition

abbrev pub IsOfVersion1 : Header → Type 0
IsOfVersion1 (data_page h) = Unit {0}
IsOfVersion1 _ = ⊥

abbrev pub IsOfVersion2 : Header → Type 0
IsOfVersion2 (data_page_2 h) = Unit {0}
IsOfVersion2 _ = ⊥

-- it is the column's first pair, or of a page of version 2: behind these pages
abbrev pub S5 : Leaf → List RawPage → RawPage → Type 0
S5 l before p = GoesOn l p × (All (λ q. count_in q.header ≡ 0) before ⊎ IsOfVersion2 p.header)

-- it is of a page of version 1 that isn't the first
abbrev pub N8 : Leaf → List RawPage → RawPage → Type 0
N8 l before p = GoesOn l p × IsOfVersion1 p.header × (before ≢ [])

-- ---- values

-- so many values are called for
abbrev pub called_by : Leaf → List Triple → ℕ
called_by l ts = count_by (λ t. nat_eq t.definition (max_definition l)) ts

-- no values of the number that the levels call for, in a column with these entries
pub record S6 (l : Leaf) (entries : Option (List Value)) (p : RawPage) : Type 0 where
  pub pairs : List Triple
  pub has : HasPairs l p pairs
  pub encoding : Encoding
  pub has_encoding : HasEncoding p.header encoding
  pub is_read : IsRead l encoding
  pub has_entries : encoding ≡ dictionary → entries ≢ None
  pub none : (vs : List Value) → length vs ≡ called_by l pairs → Begins (IsSpelled encoding l entries) has.0.sections.values vs → ⊥

-- a dictionary page's body is cut
abbrev pub S6Entries : Leaf → RawPage → Type 0
S6Entries l p = EncodingOfEntries p.header × ((entries : List Value) → AreEntriesOf l p.header p.body entries → ⊥)

-- no value of the leaf type is stored so
abbrev pub IsOutside : LeafType → Physical → Value → Type 0
IsOutside t p s = (v : Value) → IsStored t p v s → ⊥

-- one of the values that can be read of a page
pub record S7 (t : LeafType) (l : Leaf) (entries : Option (List Value)) (p : RawPage) : Type 0 where
  pub pairs : List Triple
  pub has : HasPairs l p pairs
  pub encoding : Encoding
  pub has_encoding : HasEncoding p.header encoding
  pub is_read : IsRead l encoding
  pub read : List Value
  pub begins : BeginsValues encoding l entries (called_by l pairs) has.0.sections.values read
  pub stored : Value
  pub is_one : Contains read stored
  pub outside : IsOutside t l.physical stored

-- or one of the entries
pub record S7Entries (t : LeafType) (l : Leaf) (p : RawPage) : Type 0 where
  pub entries : List Value
  pub are : AreEntriesOf l p.header p.body entries
  pub stored : Value
  pub is_one : Contains entries stored
  pub outside : IsOutside t l.physical stored
