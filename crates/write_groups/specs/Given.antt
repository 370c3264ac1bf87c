-- What the pages of a column are in a file (Parquet format, "Column chunks").
use Rattle.std.specs.Prelude.{◌≡◌, ◌⊎◌, ℕ, zero, suc, ◌<◌, ◌≤◌, Bool, true, false, List, length, is_some, option_map}
use Rattle.std.specs.List.{AllZip}
use Rattle.shredding.specs.Shape.{LeafType, Way}
use Rattle.shredding.specs.Shred.{Triple, column, max_repetition, max_definition}
use Rattle.shredding.specs.Slot.{Slot}
use Rattle.columns_base.specs.declared.error.Error.{Error}
use Rattle.columns_base.specs.declared.error.Error.TheVariants.{Memory, Overflow}
use Rattle.columns_base.specs.declared.error.V.TheVariants.{V3}
use Rattle.pq_tree.specs.Physical.{Physical}
use Rattle.pq_tree.specs.Tree.{Leaf}
use Rattle.pq_tree.specs.declared.version.Version.{Version}
use Rattle.pq_files.specs.Layout.{OutPage, OutChunk, bounded}
use Rattle.pq_files.specs.Page.{Encoding}
use Rattle.pq_files.specs.Reasons.{AnyOf}
use Rattle.pq_files.specs.Room.{max_count}
use Rattle.pq_files.specs.Statistics.{HasStatistics}
use Rattle.pq_files.specs.Stored.{AreStored}
use Rattle.pq_files.specs.Written.{pairs_in, statistics_of}
use Rattle.page_statistics.specs.Spelled.{IsExact}
use Rattle.pq_pages.specs.Denotes.{IsLeafAs}
use Rattle.write_file.specs.Pages.{entry_count}
use Rattle.write_groups.specs.declared.column.ChunkColumn.{ChunkColumn}
use Rattle.write_pages.specs.declared.pages.PageIter.{PageIter}
use Rattle.write_pages.specs.Entries.{Entries, IsDictionaryPastRoom, stored_list}
use Rattle.write_pages.specs.Given.{to_give}
use Rattle.write_pages.specs.Holds.{HaveBytes, ToGive}
use Rattle.write_pages.specs.Refused.{IsPastRoom}

-- The data page of a piece of rows, in a column with these entries, if it has a dictionary: their stored values, in the encoding, and their statistics exactly where
-- they are wanted, whose bounds are those of all entries where there are some.
pub record IsPageOf (wanted : Bool) (e : Encoding) (t : LeafType) (p : Physical) (w : Way) (entries : Entries) (piece : List Slot) (o : OutPage) : Type 0 where
  pub triples : AreStored t p (column w piece) o.triples
  pub have_bytes : HaveBytes t o.triples
  pub encoding : o.encoding ≡ e
  pub statistics : HasStatistics wanted t p o.statistics (column w piece) (bounded entries (column w piece))
  pub exact : IsExact t p (bounded entries (column w piece)) o.statistics
  pub some : 0 < length o.triples

-- The data pages that are still to be given are those of this chunk of a leaf, whose dictionary page, where the column has entries, stores each of them, and whose statistics
-- are those of the whole column: no column of the type is stored in two ways, decimals as bytes, and the leaf is one of its physical type and greatest levels.
pub record GivesChunk (version : Version) (l : Leaf) (c : OutChunk) (g : ToGive) : Type 0 where
  pub version_is : g.options.version ≡ version
  pub leaf : IsLeafAs l g.physical (max_repetition g.way) (max_definition g.way)
  pub once : (xs ys zs : List Triple) → HaveBytes g.type ys → HaveBytes g.type zs → AreStored g.type g.physical xs ys → AreStored g.type g.physical xs zs → ys ≡ zs
  pub entries : c.entries ≡ stored_list g.type g.physical g.entries
  pub statistics : HasStatistics g.options.write_statistics g.type g.physical c.statistics (column g.way g.rows) (bounded g.entries (column g.way g.rows))
  pub pages : AllZip (IsPageOf g.options.write_statistics g.encoding g.type g.physical g.way g.entries) g.pieces c.pages

-- a column of these pages
abbrev pub column_of : PageIter → ChunkColumn
column_of p = record { pages = p; has_failed = false }

abbrev pub to_come : ChunkColumn → ToGive
to_come s = to_give s.pages

-- no dictionary page is still to come: the chunk has none, or it was given
abbrev pub GivesColumn : ChunkColumn → Version → Leaf → OutChunk → Type 0
GivesColumn s version l c = (s.has_failed ≡ false) × ((to_come s).owes_dictionary ≡ false) × GivesChunk version l c (to_come s)

-- The same of a whole chunk, of which no page was given: its dictionary page is still to come exactly where it has entries. Its statistics are stated, where a file counts its
-- pairs and its entries.
abbrev pub BeginsColumn : ChunkColumn → Version → Leaf → OutChunk → Type 0
BeginsColumn s version l c =
    (s.has_failed ≡ false) × ((to_come s).owes_dictionary ≡ is_some (to_come s).entries) × GivesChunk version l c (to_come s)
    × (pairs_in c ≤ max_count → entry_count c.entries ≤ max_count → (to_come s).statistics ≡ option_map statistics_of c.statistics)

-- the steps that are left at most
abbrev pub left_after : Bool → ℕ → ℕ
left_after true n = zero
left_after false n = suc n

abbrev pub left_of : ChunkColumn → ℕ
left_of s = left_after s.has_failed (length (to_come s).pieces)

-- why a page is refused: memory, or the room of the dictionary page or of a data page that is still to come passes the sizes of a header
abbrev pub RefusesColumn : ChunkColumn → Error → Type 0
RefusesColumn s e =
    (e ≡ Memory)
    ⊎ ((e ≡ Overflow V3) × (IsDictionaryPastRoom (to_come s).type (to_come s).physical (to_come s).entries ⊎ AnyOf (λ piece. IsPastRoom (to_come s).type (to_come s).physical (column (to_come s).way piece)) (to_come s).pieces))
