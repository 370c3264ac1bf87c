-- A data page that is opened for reading (Parquet format, "Data Pages").
use Rattle.std.specs.Prelude.{◌≡◌, ◌⊎◌, ℕ, ◌<◌, ◌^◌, Bool, false, nat_lt, Option, Some, None, Ok, Err, List, [], ◌∷◌}
use Rattle.columns_base.specs.declared.error.Error.{Error}
use Rattle.columns_base.specs.declared.error.Error.TheVariants.{NotYetImplemented, OutOfSpec}
use Rattle.columns_base.specs.declared.error.N.TheVariants.{N4}
use Rattle.columns_base.specs.declared.error.S.TheVariants.{S4}
use Rattle.pq_numbers.specs.Bits.{IsWidth}
use Rattle.pq_tree.specs.Headers.{Header, data_page, data_page_2}
use Rattle.pq_tree.specs.Tree.{Leaf, max_definition, max_repetition}
use Rattle.pq_files.specs.Chunk.{IsData, RawPage, count_in}
use Rattle.pq_files.specs.Page.{Encoding, plain, dictionary, delta, delta_length, HasEncoding, Sections, IsSplit, SaysRuns}
use Rattle.pq_headline.specs.Columns.{ArrowColumn}
use Rattle.pq_headline.specs.FieldReasons.{IsNotReadIn}
use Rattle.pq_pages.specs.Outcomes.{Levels, Outcome, gives_page}
use Rattle.pq_pages.specs.Split.{sections}
use Rattle.read_walk.specs.Pairs.{Item, page_items}
use Rattle.read_column.specs.Deltas.{IsReadBy}
use Rattle.read_column.specs.declared.deltas.Deltas.{Deltas}
use Rattle.read_column.specs.declared.encoding.ValueEncoding.{ValueEncoding}
use Rattle.read_column.specs.declared.encoding.ValueEncoding.TheVariants as E
use Rattle.read_column.specs.declared.page.OpenPage.{OpenPage}

abbrev pub encoding_by : ValueEncoding → Encoding
encoding_by E.Plain = plain
encoding_by E.Dictionary = dictionary
encoding_by E.Delta = delta
encoding_by E.DeltaLength = delta_length

-- a data page in an encoding that is known
abbrev pub IsServed : Header → Type 0
IsServed h = (e : Encoding) × HasEncoding h e

-- its values are read, in a column where they stand in bytes of their own or not, and whose deltas are these
abbrev pub IsServedIn : Bool → Deltas → Header → Type 0
IsServedIn own k h = (e : Encoding) × HasEncoding h e × IsReadBy own k e

-- the encoding that was found for a data page: none where it is not known, or not read
abbrev pub IsEncodingOf : Header → Option ValueEncoding → Type 0
IsEncodingOf h None = IsData h × ((e : Encoding) → HasEncoding h e → ⊥)
IsEncodingOf h (Some known) = HasEncoding h (encoding_by known)

abbrev pub IsServedAs : Bool → Deltas → Header → Option ValueEncoding → Type 0
IsServedAs own k h None = IsData h × (IsServedIn own k h → ⊥)
IsServedAs own k h (Some known) = HasEncoding h (encoding_by known) × IsReadBy own k (encoding_by known)

-- a data page that is read in the column
abbrev pub IsServedPage : ArrowColumn → Outcome → Type 0
IsServedPage c (gives_page p levels) = IsServed p.header × (¬ IsNotReadIn c p.header)
IsServedPage c o = ⊥

-- its levels are runs, in a column with these greatest levels: version 2 knows no other form
abbrev pub SayRuns : Levels → Header → Type 0
SayRuns levels (data_page h) = SaysRuns levels.repetition h.repetition_encoding × SaysRuns levels.definition h.definition_encoding
SayRuns levels h = Unit {0}

-- of version 2: its header states so many rows
abbrev pub StatesRows : Header → ℕ → Type 0
StatesRows (data_page_2 h) n = h.num_rows ≡ n
StatesRows h n = Unit {0}

-- of each leaf with these greatest levels
abbrev pub IsCutInto : RawPage → Levels → Sections → Type 0
IsCutInto p levels s = (l : Leaf) → max_repetition l ≡ levels.repetition → max_definition l ≡ levels.definition → IsSplit l p.header p.body s

-- The page is served in this encoding, and these are its sections, its column's greatest levels, and how many pairs it has.
pub record IsOpened (own : Bool) (k : Deltas) (e : Encoding) (p : RawPage) (levels : Levels) (s : Sections) (repetition definition n : ℕ) : Type 0 where
  pub encoding : HasEncoding p.header e
  pub read : IsReadBy own k e
  pub runs : SayRuns levels p.header
  pub split : IsCutInto p levels s
  pub repetitions : repetition ≡ levels.repetition
  pub definitions : definition ≡ levels.definition
  pub count : n ≡ count_in p.header
  pub few : repetition < 2 ^ 32
  pub low : definition < 2 ^ 32
  pub counted : n < 2 ^ 64

-- an error for which it is not opened, with its cause
abbrev pub CannotOpen : Bool → Deltas → RawPage → Levels → Error → Type 0
CannotOpen own k p levels e =
    ((e ≡ NotYetImplemented N4) × ((IsData p.header × (IsServedIn own k p.header → ⊥)) ⊎ (SayRuns levels p.header → ⊥)))
    ⊎ ((e ≡ OutOfSpec S4) × ((l : Leaf) → max_repetition l ≡ levels.repetition → max_definition l ≡ levels.definition → (s : Sections) → IsSplit l p.header p.body s → ⊥))

-- the items of so many pairs of two sections, whatever the widths of their levels are called
abbrev pub ArePairsOf : Sections → ℕ → ℕ → ℕ → List Item → Type 0
ArePairsOf s repetition definition n items =
    (v w : ℕ) → IsWidth repetition v → IsWidth definition w → items ≡ page_items repetition v definition w n s.repetition s.definition

-- the same of a page in memory
abbrev pub sections_in : OpenPage → Sections
sections_in x = sections x.repetitions.now x.definitions.now x.values.now

abbrev pub IsOpenPage : Bool → Deltas → RawPage → Levels → OpenPage → Type 0
IsOpenPage own k p levels x = IsOpened own k (encoding_by x.encoding) p levels (sections_in x) x.max_repetition x.max_definition x.count

-- Its greatest levels have 32 bits, and the number of its pairs 64.
pub record IsSized (x : OpenPage) : Type 0 where
  pub few : x.max_repetition < 2 ^ 32
  pub low : x.max_definition < 2 ^ 32
  pub counted : x.count < 2 ^ 64

abbrev pub ArePairsIn : OpenPage → List Item → Type 0
ArePairsIn x items = ArePairsOf (sections_in x) x.max_repetition x.max_definition x.count items

-- whether the first pair goes on with a row
abbrev pub first_goes_on : List Item → Bool
first_goes_on [] = false
first_goes_on (Ok p ∷ is) = nat_lt 0 p.0
first_goes_on (Err e ∷ is) = false
