-- What a data page holds (Parquet format, "Data Pages", "Nested Encoding" and Encodings).
use Rattle.std.specs.Prelude.{◌≡◌, ◌≢◌, ◌⊎◌, ℕ, zero, suc, ℤ, pos, negsuc, List, ◌++◌, length, map, filter_map, count_by, All, is_some, nat_eq, Option, Some, None, ◌==◌, if◌then◌else◌}
use Rattle.std.specs.Int.{w32, w64}
use Rattle.shredding.specs.Slot.{Value}
use Rattle.shredding.specs.Laws.{BeginsRow}
use Rattle.shredding.specs.Shred.{Triple}
use Rattle.pq_files.specs.Delta.{AreDeltas, AreDeltaLengths}
use Rattle.pq_metadata.specs.Header.{Header, data_page, data_page_2, dictionary_page}
use Rattle.pq_files.specs.Indices.{IsIndexed}
use Rattle.pq_files.specs.Levels.{HasLevels, IsBehindLength}
use Rattle.pq_tree.specs.Physical.{boolean, int32, int64, byte_array}
use Rattle.pq_files.specs.Plain.{IsPlain}
use Rattle.pq_numbers.specs.Texts.{Begins}
use Rattle.pq_tree.specs.Tree.{Leaf, max_definition, max_repetition}

-- ---- encodings

pub data Encoding : Type 0 where
  plain dictionary delta delta_length : Encoding

abbrev pub encoding_numbered : ℤ → Option Encoding
encoding_numbered (pos n) =
    if n == 0 then Some plain
    else if n == 2 then Some dictionary
    else if n == 8 then Some dictionary
    else if n == 5 then Some delta
    else if n == 6 then Some delta_length
    else None
encoding_numbered (negsuc n) = None

-- A spelling of the values, for a column with these dictionary entries. Deltas are of any column of their physical type, nested or not.
abbrev pub IsSpelled : Encoding → Leaf → Option (List Value) → List ℕ → List Value → Type 0
IsSpelled plain l entries text vs = IsPlain l.physical text vs
IsSpelled dictionary l None text vs = ⊥
IsSpelled dictionary l (Some entries) text vs = (l.physical ≢ boolean) × IsIndexed entries text vs
IsSpelled delta l entries text vs = ((l.physical ≡ int32) × AreDeltas w32 text vs) ⊎ ((l.physical ≡ int64) × AreDeltas w64 text vs)
IsSpelled delta_length l entries text vs = (l.physical ≡ byte_array) × AreDeltaLengths text vs

-- ---- sections

pub record Sections : Type 0 where
  pub repetition : List ℕ
  pub definition : List ℕ
  pub values : List ℕ

-- In version 1 each level section stands behind its length.
pub record IsSplit1 (l : Leaf) (body : List ℕ) (s : Sections) : Type 0 where
  pub behind : List ℕ
  pub repetition : IsBehindLength (max_repetition l) body s.repetition behind
  pub definition : IsBehindLength (max_definition l) behind s.definition s.values

-- In version 2 the header has the lengths.
pub record IsSplit2 (repetition_length definition_length : ℕ) (body : List ℕ) (s : Sections) : Type 0 where
  pub repetition : length s.repetition ≡ repetition_length
  pub definition : length s.definition ≡ definition_length
  pub parts : body ≡ s.repetition ++ (s.definition ++ s.values)

abbrev pub IsSplit : Leaf → Header → List ℕ → Sections → Type 0
IsSplit l (data_page h) body s = IsSplit1 l body s
IsSplit l (data_page_2 h) body s = IsSplit2 h.repetition_length h.definition_length body s
IsSplit l (dictionary_page h) body s = ⊥

-- Levels stand in runs, as version 1 says of each level whose maximum isn't 0.
abbrev pub SaysRuns : ℕ → Option ℤ → Type 0
SaysRuns zero encoding = Unit {0}
SaysRuns (suc max) encoding = encoding ≡ Some (pos 3)

abbrev pub LevelsAreRuns : Leaf → Header → Type 0
LevelsAreRuns l (data_page h) = SaysRuns (max_repetition l) h.repetition_encoding × SaysRuns (max_definition l) h.definition_encoding
LevelsAreRuns l (data_page_2 h) = Unit {0}
LevelsAreRuns l (dictionary_page h) = Unit {0}

abbrev pub HasEncoding : Header → Encoding → Type 0
HasEncoding (data_page h) e = encoding_numbered h.encoding ≡ Some e
HasEncoding (data_page_2 h) e = encoding_numbered h.encoding ≡ Some e
HasEncoding (dictionary_page h) e = ⊥

-- ---- triples

abbrev pub rows_in : List Triple → ℕ
rows_in ts = count_by (λ t. nat_eq t.repetition 0) ts

abbrev pub values_in : List Triple → List Value
values_in ts = filter_map (λ t. t.value) ts

-- the header's counts
abbrev pub IsCounted : Header → List Triple → Type 0
IsCounted (data_page h) ts = h.num_values ≡ length ts
IsCounted (data_page_2 h) ts = (h.num_values ≡ length ts) × (h.num_rows ≡ rows_in ts)
IsCounted (dictionary_page h) ts = ⊥

-- The body of a data page, for a column of the leaf with these entries, spells the triples. Sections behind is what the levels and values are asked of.
pub record IsPageOf (Levels : ℕ → List ℕ → List ℕ → Type 0) (Values : Encoding → List ℕ → List Value → Type 0) (l : Leaf) (h : Header) (body : List ℕ) (ts : List Triple) : Type 0 where
  pub sections : Sections
  pub split : IsSplit l h body sections
  pub runs : LevelsAreRuns l h
  pub repetitions : Levels (max_repetition l) sections.repetition (map (λ t. t.repetition) ts)
  pub definitions : Levels (max_definition l) sections.definition (map (λ t. t.definition) ts)
  -- a value stands exactly where the definition level is the maximum
  pub present : All (λ t. is_some t.value ≡ nat_eq t.definition (max_definition l)) ts
  pub encoding : Encoding
  pub has_encoding : HasEncoding h encoding
  pub values : Values encoding sections.values (values_in ts)
  pub counted : IsCounted h ts
  pub begins_row : BeginsRow ts

-- as a reader takes it: sections may go on behind what is needed
abbrev pub IsPage : Leaf → Option (List Value) → Header → List ℕ → List Triple → Type 0
IsPage l entries h body ts = IsPageOf HasLevels (λ e section vs. Begins (IsSpelled e l entries) section vs) l h body ts
