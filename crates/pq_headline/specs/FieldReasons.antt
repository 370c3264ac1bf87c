-- Why no array of a field comes (Dremel paper, "Record assembly"; Arrow columnar format, "Variable-size List Layout" and "Dictionary-encoded Layout").
use Rattle.std.specs.Prelude.{◌≡◌, ◌≢◌, ◌⊎◌, ℕ, suc, ◌*◌, ◌^◌, ◌<◌, IsTrue, List, [], ◌∷◌, ◌++◌, length, drop, sum_by, count_by, All, nat_le, false, ◌&&◌, Option, Some, None}
use Rattle.columns_base.specs.declared.error.Error.{Error}
use Rattle.columns_base.specs.declared.error.Error.TheVariants.{Memory, OutOfSpec, NotYetImplemented, Overflow}
use Rattle.columns_base.specs.declared.error.S.TheVariants.{S3, S4, S5, S6, S7, S9, S10}
use Rattle.columns_base.specs.declared.error.N.TheVariants.{N4, N8}
use Rattle.columns_base.specs.declared.error.V.TheVariants.{V1, V2}
use Rattle.columns_core.specs.declared.types.IntegerType.{IntegerType}
use Rattle.columns_core.specs.declared.types.IntegerType.TheVariants as K
use Rattle.columns_core.specs.Shapes.{base, leaf_type}
use Rattle.columns_core.specs.Tree.{TypeTree, t_binary, t_large_binary, t_utf8, t_large_utf8, t_dictionary}
use Rattle.pq_metadata.specs.Header.{Header}
use Rattle.pq_tree.specs.Tree.{Leaf}
use Rattle.pq_files.specs.Chunk.{RawPage, IsData, count_in}
use Rattle.pq_files.specs.Page.{HasEncoding, values_in, dictionary as by_dictionary, delta, delta_length}
use Rattle.pq_files.specs.PageReasons.{IsOutside, GoesOn, IsOfVersion1, N4Page}
use Rattle.pq_files.specs.Reasons.{AnyOf}
use Rattle.pq_files.specs.RowReasons.{ReadsTriples}
use Rattle.pq_pages.specs.Held.{AreEntriesIn}
use Rattle.pq_pages.specs.Outcomes.{Levels, Outcome, gives_page, gives_dictionary, fails}
use Rattle.shredding.specs.Laws.{first_rows}
use Rattle.shredding.specs.Local.{inside}
use Rattle.shredding.specs.Shape.{Way}
use Rattle.shredding.specs.Shred.{Triple}
use Rattle.shredding.specs.Slot.{Value, bytes}
use Rattle.pq_headline.specs.Columns.{ArrowColumn, field_columns, is_alone, is_dictionary, small_limit, large_limit}
use Rattle.pq_headline.specs.Openings.{Opening, HasRows}

-- reasons that speak of rows: when exactly each comes is said by its own condition
abbrev pub IsOfRows : Error → Type 0
IsOfRows e = (e ≡ OutOfSpec S4) ⊎ (e ≡ OutOfSpec S5) ⊎ (e ≡ OutOfSpec S6) ⊎ (e ≡ OutOfSpec S7) ⊎ (e ≡ OutOfSpec S9) ⊎ (e ≡ OutOfSpec S10)

-- ---- sources

-- a source fails with this
abbrev pub SomeFails : Error → List (List Outcome) → Type 0
SomeFails e outcomes = AnyOf (λ os. AnyOf (λ o. o ≡ fails e) os) outcomes

abbrev pub GivesEntries : Outcome → Type 0
GivesEntries (gives_dictionary n body) = Unit {0}
GivesEntries o = ⊥

abbrev pub GivesIndices : Outcome → Type 0
GivesIndices (gives_page p levels) = HasEncoding p.header by_dictionary
GivesIndices o = ⊥

abbrev pub BeginsWithEntries : List Outcome → Type 0
BeginsWithEntries (o ∷ os) = GivesEntries o
BeginsWithEntries [] = ⊥

-- a dictionary page that isn't the first page, or indices without one: no reader of a chunk gives such pages
pub record HasMisplaced (outcomes : List Outcome) : Type 0 where
  pub before : List Outcome
  pub outcome : Outcome
  pub rest : List Outcome
  pub parts : outcomes ≡ before ++ outcome ∷ rest
  pub misplaced : ((before ≢ []) × GivesEntries outcome) ⊎ (GivesIndices outcome × (¬ BeginsWithEntries outcomes))

-- ---- pages

-- A page of a dictionary type without indices, or of deltas in a column of a field that nests.
abbrev pub IsNotReadIn : ArrowColumn → Header → Type 0
IsNotReadIn c h = (IsTrue (is_dictionary c.data_type) × IsData h × (¬ HasEncoding h by_dictionary)) ⊎ ((is_alone c.way ≡ false) × (HasEncoding h delta ⊎ HasEncoding h delta_length))

-- a page in an encoding that is not read, of any column or of this one
abbrev pub HasN4Page : ArrowColumn → Leaf → Outcome → Type 0
HasN4Page c l (gives_page p levels) = N4Page l p ⊎ IsNotReadIn c p.header
HasN4Page c l o = ⊥

abbrev pub SomeN4 : List ArrowColumn → List Leaf → List (List Outcome) → Type 0
SomeN4 (c ∷ cs) (l ∷ ls) (os ∷ others) = AnyOf (HasN4Page c l) os ⊎ SomeN4 cs ls others
SomeN4 _ _ _ = ⊥

abbrev pub GivesPage : Outcome → Type 0
GivesPage (gives_page p levels) = Unit {0}
GivesPage o = ⊥

-- a page of version 1 that isn't the first of its column and goes on with a row
pub record HasN8 (l : Leaf) (outcomes : List Outcome) : Type 0 where
  pub before : List Outcome
  pub page : RawPage
  pub levels : Levels
  pub rest : List Outcome
  pub parts : outcomes ≡ before ++ gives_page page levels ∷ rest
  pub later : AnyOf GivesPage before
  pub version : IsOfVersion1 page.header
  pub goes_on : GoesOn l page

abbrev pub SomeN8 : List Leaf → List (List Outcome) → Type 0
SomeN8 (l ∷ ls) (os ∷ others) = HasN8 l os ⊎ SomeN8 ls others
SomeN8 _ _ = ⊥

-- ---- what can be read of a column

-- the entries of its dictionary page, each of which is one of the leaf type, and the outcomes behind it
abbrev pub ReadsFront : ArrowColumn → Leaf → List Outcome → Option (List Value) → List Outcome → Type 0
ReadsFront c l (gives_dictionary n body ∷ os) entries rest =
    (es : List Value) × (entries ≡ Some es) × AreEntriesIn l n body es × All (λ v. ¬ IsOutside (leaf_type c.data_type) l.physical v) es × (rest ≡ os)
ReadsFront c l os entries rest = (entries ≡ None) × (rest ≡ os)

-- whole pages, and the front of the next one
abbrev pub ReadsPages : ArrowColumn → Leaf → Option (List Value) → List Outcome → List Triple → Type 0
ReadsPages c l entries (gives_page p levels ∷ os) ts =
    (¬ IsNotReadIn c p.header)
    × (ReadsTriples (leaf_type c.data_type) l entries p ts
    ⊎ ((first : List Triple) × (others : List Triple) × ReadsTriples (leaf_type c.data_type) l entries p first × (length first ≡ count_in p.header) × ReadsPages c l entries os others × (ts ≡ first ++ others)))
ReadsPages c l entries os ts = ts ≡ []

-- the triples of a column from the front on, as far as it can be read
pub record ReadsColumn (c : ArrowColumn) (l : Leaf) (outcomes : List Outcome) (entries : Option (List Value)) (ts : List Triple) : Type 0 where
  pub behind : List Outcome
  pub front : ReadsFront c l outcomes entries behind
  pub pages : ReadsPages c l entries behind ts

-- ---- V1: what passes the offsets of an array

-- of n rows behind so many others
abbrev pub rows_behind : ℕ → ℕ → List Triple → List Triple
rows_behind before n ts = first_rows n (drop (length (first_rows before ts)) ts)

-- the triples of an array: those of the k-th n rows, or all of them
abbrev pub IsPieceOf : Option ℕ → List Triple → List Triple → Type 0
IsPieceOf None ts piece = piece ≡ ts
IsPieceOf (Some n) ts piece = (k : ℕ) × (piece ≡ rows_behind (k * n) n ts)

-- the items of the way's r-th list: triples that begin one, in a list that is there
abbrev pub items_in : Way → ℕ → List Triple → ℕ
items_in w r ts = count_by (λ t. nat_le t.repetition r && nat_le (inside w r) t.definition) ts

-- of one of the lists from the r-th on
abbrev pub PassesLists : Way → ℕ → List ℕ → List Triple → Type 0
PassesLists w r [] ts = ⊥
PassesLists w r (limit ∷ limits) ts = (limit < items_in w r ts) ⊎ PassesLists w (suc r) limits ts

abbrev pub text_size : Value → ℕ
text_size (bytes s) = length s
text_size v = 0

-- the bytes of texts and byte strings
abbrev pub PassesTexts : TypeTree → List Value → Type 0
PassesTexts t_utf8 vs = small_limit < sum_by text_size vs
PassesTexts t_binary vs = small_limit < sum_by text_size vs
PassesTexts t_large_utf8 vs = large_limit < sum_by text_size vs
PassesTexts t_large_binary vs = large_limit < sum_by text_size vs
PassesTexts t vs = ⊥

-- those of a dictionary's entries
abbrev pub EntriesPass : TypeTree → Option (List Value) → Type 0
EntriesPass (t_dictionary key t is_sorted) (Some entries) = PassesTexts (base t) entries
EntriesPass t entries = ⊥

-- the items of a list, or the text bytes, of an array of this column
pub record PassesOffsets (chunk_size : Option ℕ) (c : ArrowColumn) (l : Leaf) (outcomes : List Outcome) : Type 0 where
  pub entries : Option (List Value)
  pub triples : List Triple
  pub reads : ReadsColumn c l outcomes entries triples
  pub piece : List Triple
  pub is_piece : IsPieceOf chunk_size triples piece
  pub passes : PassesLists c.way 1 c.limits piece ⊎ PassesTexts c.data_type (values_in piece)

-- The text bytes of the entries of its dictionary page, each of which is a value of the leaf type, whatever pages are behind it.
pub record HasLongEntries (c : ArrowColumn) (l : Leaf) (outcomes : List Outcome) : Type 0 where
  pub n : ℕ
  pub body : List ℕ
  pub behind : List Outcome
  pub outcomes_are : outcomes ≡ gives_dictionary n body ∷ behind
  pub entries : List Value
  pub are : AreEntriesIn l n body entries
  pub inside : All (λ v. ¬ IsOutside (leaf_type c.data_type) l.physical v) entries
  pub long : EntriesPass c.data_type (Some entries)

-- of an array of this column, or of its dictionary
abbrev pub HasV1 : Option ℕ → ArrowColumn → Leaf → List Outcome → Type 0
HasV1 n c l os = PassesOffsets n c l os ⊎ HasLongEntries c l os

abbrev pub SomeV1 : Option ℕ → List ArrowColumn → List Leaf → List (List Outcome) → Type 0
SomeV1 n (c ∷ cs) (l ∷ ls) (os ∷ others) = HasV1 n c l os ⊎ SomeV1 n cs ls others
SomeV1 n _ _ _ = ⊥

-- ---- V2: what passes the keys of a dictionary

-- how many numbers from 0 on a key type has
abbrev pub key_room : IntegerType → ℕ
key_room K.Int8 = 2 ^ 7
key_room K.Int16 = 2 ^ 15
key_room K.Int32 = 2 ^ 31
key_room K.Int64 = 2 ^ 63
key_room K.UInt8 = 2 ^ 8
key_room K.UInt16 = 2 ^ 16
key_room K.UInt32 = 2 ^ 32
key_room K.UInt64 = 2 ^ 64

abbrev pub PassesKeys : TypeTree → ℕ → Type 0
PassesKeys (t_dictionary key t is_sorted) n = key_room key < n
PassesKeys t n = ⊥

-- the dictionary page of a column has more entries than its keys count
abbrev pub SomeV2 : List ArrowColumn → List (List Outcome) → Type 0
SomeV2 (c ∷ cs) ((gives_dictionary n body ∷ os) ∷ others) = PassesKeys c.data_type n ⊎ SomeV2 cs others
SomeV2 (c ∷ cs) (os ∷ others) = SomeV2 cs others
SomeV2 _ _ = ⊥

abbrev pub HasTooMany : Error → Opening → Type 0
HasTooMany e o = ((e ≡ Overflow V1) × SomeV1 o.chunk_size (field_columns o.field) o.leaves o.outcomes) ⊎ ((e ≡ Overflow V2) × SomeV2 (field_columns o.field) o.outcomes)

-- ---- all of them

-- Want of memory is free. Of the others each comes only so.
abbrev pub Refuses : Opening → Error → Type 0
Refuses o e =
    (e ≡ Memory)
    ⊎ (((e ≡ OutOfSpec S3) ⊎ (e ≡ NotYetImplemented N4)) × SomeFails e o.outcomes)
    ⊎ ((e ≡ OutOfSpec S3) × AnyOf HasMisplaced o.outcomes)
    ⊎ ((e ≡ NotYetImplemented N4) × SomeN4 (field_columns o.field) o.leaves o.outcomes)
    ⊎ ((e ≡ NotYetImplemented N8) × SomeN8 o.leaves o.outcomes)
    ⊎ HasTooMany e o
    ⊎ (IsOfRows e × (¬ HasRows o))
