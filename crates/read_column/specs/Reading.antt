-- A column's reader between two calls.
use Rattle.std.specs.Prelude.{◌≡◌, ◌⊎◌, ℕ, ◌<◌, Bool, true, false, Option, Some, None, List, [], ◌++◌, flat_map, length, All}
use Rattle.columns_base.specs.declared.error.Error.{Error}
use Rattle.columns_base.specs.declared.error.Error.TheVariants.{NotYetImplemented, OutOfSpec}
use Rattle.columns_base.specs.declared.error.N.TheVariants.{N8}
use Rattle.columns_base.specs.declared.error.S.TheVariants.{S3, S4, S5, S6, S9}
use Rattle.columns_core.specs.Shapes.{leaf_type}
use Rattle.shredding.specs.Shape.{Way}
use Rattle.shredding.specs.Shred.{Triple}
use Rattle.shredding.specs.Slot.{Value}
use Rattle.pq_files.specs.Chunk.{Page, RawPage, count_in}
use Rattle.pq_files.specs.Page.{Encoding, HasEncoding, Sections, dictionary, delta, delta_length, rows_in}
use Rattle.pq_files.specs.Reasons.{AnyOf}
use Rattle.pq_files.specs.Stored.{AreStored}
use Rattle.pq_headline.specs.Columns.{is_alone}
use Rattle.pq_headline.specs.FieldReasons.{GivesPage, ReadsFront}
use Rattle.pq_pages.specs.Held.{ArePagesIn}
use Rattle.pq_pages.specs.Outcomes.{Levels, Outcome}
use Rattle.pq_tree.specs.Headers.{Header, data_page}
use Rattle.read_pieces.specs.Columns.{ColumnOpening, IsReadable}
use Rattle.read_pieces.specs.Leaves.{in_bytes}
use Rattle.read_walk.specs.Pairs.{Item}
use Rattle.read_walk.specs.Values.{Stored}
use Rattle.read_column.specs.Deltas.{HasFault, SpellNone, deltas_in, present_in}
use Rattle.read_column.specs.Dictionary.{AreTextsOf, HasValues, Means}
use Rattle.read_column.specs.declared.deltas.Deltas.{Deltas}
use Rattle.read_column.specs.Opened.{ArePairsOf, CannotOpen, IsOpened, IsServedPage, StatesRows, first_goes_on}
use Rattle.read_column.specs.Queues.{Waiting}
use Rattle.read_column.specs.Taken.{joined, AreSized, IsOpen, IsQueued, StopsPage, TakesPage}

-- ---- a page taken whole, or refused

-- the pairs of a page that is served in this encoding, and the section of its values
pub record HasPairs (own : Bool) (k : Deltas) (e : Encoding) (p : RawPage) (levels : Levels) (items : List Item) (section : List ℕ) : Type 0 where
  pub sections : Sections
  pub repetition : ℕ
  pub definition : ℕ
  pub n : ℕ
  pub opened : IsOpened own k e p levels sections repetition definition n
  pub are : ArePairsOf sections repetition definition n items
  pub bytes : section ≡ sections.values

-- the items of a page that is served, and its values as plain bytes
pub record HasItems (own : Bool) (d : Means) (p : RawPage) (levels : Levels) (items : List Item) (values : List ℕ) : Type 0 where
  pub encoding : Encoding
  pub sections : Sections
  pub repetition : ℕ
  pub definition : ℕ
  pub n : ℕ
  pub opened : IsOpened own d.deltas encoding p levels sections repetition definition n
  pub are : ArePairsOf sections repetition definition n items
  pub bytes : HasValues d encoding (count_in p.header) (present_in definition items) sections.values values

-- All its pairs, the first of which begins a row. As many rows begin as its header states.
pub record TakesAll (stored : List ℕ → List Stored) (d : Means) (n : Option ℕ) (w : Way) (before : ℕ) (old : List Triple) (q : Waiting) (p : RawPage) (levels : Levels) : Type 0 where
  pub items : List Item
  pub values : List ℕ
  pub has : HasItems (in_bytes stored) d p levels items values
  pub first : first_goes_on items ≡ false
  pub takes : TakesPage n w before old q items (stored values)
  pub rows : StatesRows p.header (rows_in takes.1.taken)

-- all its pairs, but its header states another number of rows
pub record CountsOtherwise (n : Option ℕ) (w : Way) (before : ℕ) (old : List Triple) (h : Header) (items : List Item) (left : List Stored) : Type 0 where
  pub queue : Waiting
  pub takes : TakesPage n w before old queue items left
  pub otherwise : StatesRows h (rows_in takes.1.taken) → ⊥

-- its first pair goes on with a row: wrong in version 2 and in a column's first page, and else not read yet
abbrev pub goes_on_error : Header → Bool → Error
goes_on_error (data_page h) false = NotYetImplemented N8
goes_on_error h is_first = OutOfSpec S5

-- Pairs with plain values, of a page with this header: all are taken, and as many rows begin as it states.
pub record TakesRows (stored : List ℕ → List Stored) (n : Option ℕ) (w : Way) (before : ℕ) (old : List Triple) (q : Waiting) (h : Header) (items : List Item) (values : List ℕ) : Type 0 where
  pub first : first_goes_on items ≡ false
  pub takes : TakesPage n w before old q items (stored values)
  pub rows : StatesRows h (rows_in takes.1.taken)

-- or not, with the cause
abbrev pub RefusesRows : (List ℕ → List Stored) → ℕ → Bool → Option ℕ → Way → ℕ → List Triple → Header → List Item → List ℕ → Error → Type 0
RefusesRows stored limit is_first n w before old h items values e =
    ((first_goes_on items ≡ true) × (e ≡ goes_on_error h is_first))
    ⊎ ((first_goes_on items ≡ false) × StopsPage limit n w before old items (stored values) e)
    ⊎ ((e ≡ OutOfSpec S9) × CountsOtherwise n w before old h items (stored values))

pub record RefusesItems (stored : List ℕ → List Stored) (d : Means) (limit : ℕ) (is_first : Bool) (n : Option ℕ) (w : Way) (before : ℕ) (old : List Triple) (p : RawPage) (levels : Levels) (e : Error) : Type 0 where
  pub items : List Item
  pub values : List ℕ
  pub has : HasItems (in_bytes stored) d p levels items values
  pub why : RefusesRows stored limit is_first n w before old p.header items values e

-- its values are indices, and there are no entries
abbrev pub HasNoEntries : Means → RawPage → Error → Type 0
HasNoEntries d p e = (e ≡ OutOfSpec S3) × (d.entries ≡ None) × HasEncoding p.header dictionary

-- Its values are deltas, and one of its pairs cannot be read, or its section does not begin with as many values as they call for.
pub record HasNoDeltas (own : Bool) (d : Means) (p : RawPage) (levels : Levels) (e : Error) : Type 0 where
  pub encoding : Encoding
  pub deltas : (encoding ≡ delta) ⊎ (encoding ≡ delta_length)
  pub items : List Item
  pub section : List ℕ
  pub has : HasPairs own d.deltas encoding p levels items section
  pub why : ((e ≡ OutOfSpec S4) × HasFault items) ⊎ ((e ≡ OutOfSpec S6) × SpellNone d.deltas (present_in has.definition items) section)

-- its values cannot be laid out plain
abbrev pub CannotLay : Bool → Means → RawPage → Levels → Error → Type 0
CannotLay own d p levels e = HasNoEntries d p e ⊎ HasNoDeltas own d p levels e

abbrev pub RefusesPage : (List ℕ → List Stored) → Means → ℕ → Bool → Option ℕ → Way → ℕ → List Triple → RawPage → Levels → Error → Type 0
RefusesPage stored d limit is_first n w before old p levels e =
    CannotOpen (in_bytes stored) d.deltas p levels e ⊎ CannotLay (in_bytes stored) d p levels e ⊎ RefusesItems stored d limit is_first n w before old p levels e

-- ---- the reader

-- what its source still gives, what its pages' values are told by, its pieces, none after an error, and whether a data page was taken
pub record Reading : Type 0 where
  pub outcomes : List Outcome
  pub means : Means
  pub queue : Option Waiting
  pub began : Bool

abbrev pub reading : List Outcome → Means → Waiting → Bool → Reading
reading outcomes d q began = record { outcomes = outcomes; means = d; queue = Some q; began = began }

-- the triples of pages, as they are stored
abbrev pub stored_in : List Page → List Triple
stored_in pages = flat_map (λ p. p.triples) pages

-- The pieces were given, those of the queue follow, and all of them are what the pages hold that were taken of the source.
pub record IsReading (stored : List ℕ → List Stored) (limit : ℕ) (o : ColumnOpening) (pieces : List (List Triple)) (r : Reading) : Type 0 where
  pub readable : IsReadable o stored limit
  pub queue : Waiting
  pub has : r.queue ≡ Some queue
  pub chunk : queue.chunk_size ≡ o.chunk_size
  pub middle : ℕ
  pub sized : AreSized o.chunk_size o.rows pieces middle
  pub whole : List (List Triple)
  pub last : List Triple
  pub queued : IsQueued o.column.way middle whole last queue
  pub wants : IsOpen queue
  pub taken : List Outcome
  pub outcomes : o.outcomes ≡ taken ++ r.outcomes
  pub entries : Option (List Value)
  pub behind : List Outcome
  pub front : ReadsFront o.column o.leaf taken entries behind
  pub texts : AreTextsOf stored o.leaf.physical r.means.entries entries
  pub deltas : r.means.deltas ≡ deltas_in (is_alone o.column.way) o.leaf.physical
  pub began : ((r.began ≡ true) × AnyOf GivesPage behind) ⊎ ((r.began ≡ false) × (behind ≡ []))
  pub pages : List Page
  pub are : ArePagesIn o.leaf entries behind pages
  pub served : All (IsServedPage o.column) behind
  pub triples : AreStored (leaf_type o.column.data_type) o.leaf.physical (joined pieces ++ (joined whole ++ last)) (stored_in pages)

-- A step of the reader: a page was taken, or nothing is left and no row is wanting.
abbrev pub Steps : (List ℕ → List Stored) → ℕ → ColumnOpening → List (List Triple) → Bool → Waiting → List Outcome → Means → Bool → Type 0
Steps stored limit o pieces true q outcomes d began = IsReading stored limit o pieces (reading outcomes d q began)
Steps stored limit o pieces false q outcomes d began = (outcomes ≡ []) × (q.rows ≡ 0) × IsReading stored limit o pieces (reading outcomes d q began)

-- as far as it has to be read for a piece: one is whole, or nothing is left and no row is wanting
pub record IsFilled (stored : List ℕ → List Stored) (limit : ℕ) (o : ColumnOpening) (pieces : List (List Triple)) (q : Waiting) (outcomes : List Outcome) (d : Means) (began : Bool) : Type 0 where
  pub is : IsReading stored limit o pieces (reading outcomes d q began)
  pub full : (0 < length q.whole) ⊎ ((outcomes ≡ []) × (q.rows ≡ 0))
