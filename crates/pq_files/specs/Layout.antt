-- How rows are laid out in pages. The Parquet format leaves it to the writer ("Data Pages", "Encodings").
use Rattle.std.specs.Prelude.{◌≡◌, ℕ, ◌+◌, ◌/◌, min, max, pos, List, [], length, sum_by, filter_map, replicate, Option, Some, None, Bool, false, cond, ◌&&◌}
use Rattle.std.specs.List.{AllZip}
use Rattle.shredding.specs.Cut.{cut}
use Rattle.shredding.specs.Slot.{Value, truth, number, bytes, Slot}
use Rattle.shredding.specs.Shape.{LeafType, nothing, Way}
use Rattle.shredding.specs.Shred.{Triple, column}
use Rattle.pq_numbers.specs.Bits.{bytes_for}
use Rattle.pq_tree.specs.declared.version.Version.{Version}
use Rattle.pq_files.specs.Page.{Encoding, plain, dictionary, delta, delta_length, values_in}
use Rattle.pq_tree.specs.Physical.{Physical, boolean, int32, int64, byte_array, fixed}
use Rattle.pq_files.specs.Statistics.{Statistics, HasStatistics}
use Rattle.pq_files.specs.Stored.{IsStored, AreStored}

pub record Options : Type 0 where
  pub version : Version
  pub page_limit : ℕ
  pub chunk_size : Option ℕ
  pub statistics : Bool
  pub delta : Bool

pub record OutPage : Type 0 where
  pub triples : List Triple
  pub encoding : Encoding
  pub statistics : Option Statistics

pub record OutChunk : Type 0 where
  pub entries : Option (List Value)
  pub pages : List OutPage
  pub statistics : Option Statistics

pub record OutGroup : Type 0 where
  pub rows : ℕ
  pub chunks : List OutChunk

-- ---- the row rule

abbrev pub plain_size : Physical → Value → ℕ
plain_size byte_array (bytes s) = 4 + length s
plain_size (fixed n) v = n
plain_size int64 v = 8
plain_size _ v = 4

-- the number of bytes of the plain spelling
abbrev pub plain_length : Physical → List Value → ℕ
plain_length boolean vs = bytes_for (length vs)
plain_length p vs = sum_by (plain_size p) vs

-- so many rows stand in a page, where n rows have values of so many plain bytes
abbrev pub rows_per_page : ℕ → ℕ → ℕ → ℕ
rows_per_page limit size n = max 1 (min limit 2113929216 / (size / n + 1))

-- ---- one column

-- What a column is written as. Where it has a dictionary, these are its entries, each with a value or null.
pub record Target : Type 0 where
  pub way : Way
  pub type : LeafType
  pub physical : Physical
  pub flat : Bool
  pub entries : Option (List (Option Value))

abbrev pub delta_of : LeafType → Physical → Encoding
delta_of nothing p = plain
delta_of t int32 = delta
delta_of t int64 = delta
delta_of t byte_array = delta_length
delta_of t _ = plain

-- the dictionary's, or where deltas are asked for and the column is flat those that the type allows, or plain
abbrev pub encoding_of : Options → Target → Option (List (Option Value)) → Encoding
encoding_of o c (Some entries) = dictionary
encoding_of o c None = cond (o.delta && c.flat) (delta_of c.type c.physical) plain

-- the present values, or in a dictionary column the entries that aren't null: those that bounds are taken of
abbrev pub bounded : Option (List (Option Value)) → List Triple → List Value
bounded (Some entries) ts = filter_map (λ e. e) entries
bounded None ts = values_in ts

pub record IsPageOfRows (o : Options) (c : Target) (rows : List Slot) (p : OutPage) : Type 0 where
  pub triples : AreStored c.type c.physical (column c.way rows) p.triples
  pub encoding : p.encoding ≡ encoding_of o c c.entries
  pub statistics : HasStatistics o.statistics c.type c.physical p.statistics (column c.way rows) (bounded c.entries (column c.way rows))

-- what stands in a dictionary page in the place of a null entry: zero, or no bytes
abbrev pub filler : Physical → Value
filler boolean = truth false
filler byte_array = bytes []
filler (fixed n) = bytes (replicate n 0)
filler p = number (pos 0)

abbrev pub IsStoredEntry : LeafType → Physical → Option Value → Value → Type 0
IsStoredEntry t p (Some v) s = IsStored t p v s
IsStoredEntry t p None s = s ≡ filler p

-- a dictionary page exactly for a column with a dictionary, with one entry for each of its entries
abbrev pub AreStoredEntries : LeafType → Physical → Option (List (Option Value)) → Option (List Value) → Type 0
AreStoredEntries t p None None = Unit {0}
AreStoredEntries t p (Some es) (Some ss) = AllZip (IsStoredEntry t p) es ss
AreStoredEntries t p _ _ = ⊥

-- the rows in pages by the row rule, or in one page where the column has a dictionary
abbrev pub pages_of : Options → Target → List Slot → Option (List (Option Value)) → ℕ → List (List Slot)
pages_of o c rows (Some entries) size = cut rows None
pages_of o c rows None size = cut rows (Some (rows_per_page o.page_limit size (length rows)))

pub record IsLaid (o : Options) (c : Target) (rows : List Slot) (out : OutChunk) : Type 0 where
  pub stored : List Triple
  pub are_stored : AreStored c.type c.physical (column c.way rows) stored
  pub entries : AreStoredEntries c.type c.physical c.entries out.entries
  pub pages : AllZip (IsPageOfRows o c) (pages_of o c rows c.entries (plain_length c.physical (values_in stored))) out.pages
  pub statistics : HasStatistics o.statistics c.type c.physical out.statistics (column c.way rows) (bounded c.entries (column c.way rows))
