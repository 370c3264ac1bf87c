-- The data page of a dictionary's keys, and what is stated of its column (Parquet format, "Data Pages", "Nested Encoding"; Encodings,
-- "Dictionary Encoding"; parquet.thrift: Statistics).
use Rattle.std.specs.Prelude.{◌≡◌, ◌⊎◌, ◌<◌, ◌≤◌, ℕ, pos, Bool, Option, Some, option_map, List, [], length, All}
use Rattle.shredding.specs.Parts.{path_way}
use Rattle.shredding.specs.Shape.{LeafType, Way}
use Rattle.shredding.specs.Shred.{Triple, column, max_repetition, max_definition}
use Rattle.shredding.specs.Slot.{Slot, Value}
use Rattle.pq_tree.specs.Footers.{ChunkStatistics}
use Rattle.pq_tree.specs.Physical.{Physical}
use Rattle.pq_tree.specs.declared.types.PrimitiveType.{PrimitiveType}
use Rattle.pq_tree.specs.declared.version.Version.{Version}
use Rattle.pq_files.specs.Layout.{OutPage, bounded, plain_length}
use Rattle.pq_files.specs.Page.{dictionary, values_in}
use Rattle.pq_files.specs.Room.{room, max_size, max_count}
use Rattle.pq_files.specs.Statistics.{Statistics, HasStatistics}
use Rattle.pq_files.specs.Stored.{AreStored}
use Rattle.pq_files.specs.Written.{statistics_of}
use Rattle.pq_pages.specs.DataPages.{DataPageValue}
use Rattle.pq_pages.specs.Denotes.{Denotes}
use Rattle.page_statistics.specs.Spelled.{HasOwnBytes, IsExact}
use Rattle.levels.specs.declared.nested.Nested.{Nested}
use Rattle.levels.specs.Nested.{parts_of, nested_column}
use Rattle.level_sections.specs.Sections.{AppendsSections}
use Rattle.write_values.specs.declared.page.Body.{Body}
use Rattle.write_values.specs.declared.page.PageForm.{PageForm}
use Rattle.dictionary_pages.specs.Entries.{AreTooLarge}
use Rattle.dictionary_pages.specs.Indices.{AppendsIndices}

-- A page of some rows along a way, whose leaf is a dictionary of entries of this leaf type, for which these values stand in the dictionary
-- page. It denotes the rows' column with the entry's stored value at each value, spelled by the entries' places, within its room, and with
-- statistics exactly where they are asked for, whose bounds are those of all entries. Its descriptor has the leaf's type and the greatest
-- levels of the way.
pub record HoldsIndices (form : PageForm) (t : LeafType) (p : Physical) (w : Way) (entries : List (Option Value)) (stored : List Value) (rows : List Slot) (type_ : PrimitiveType) (page : DataPageValue) : Type 0 where
  pub out : OutPage
  pub denotes : Denotes form.version p (max_repetition w) (max_definition w) (Some stored) out page
  pub triples : AreStored t p (column w rows) out.triples
  pub have_bytes : All (HasOwnBytes t) (values_in out.triples)
  pub encoding : out.encoding ≡ dictionary
  pub statistics : HasStatistics form.with_statistics t p out.statistics (column w rows) (bounded (Some entries) (column w rows))
  pub exact : IsExact t p (bounded (Some entries) (column w rows)) out.statistics
  pub within : room (length out.triples) (plain_length p (values_in out.triples)) ≤ max_size
  pub about : page.descriptor.primitive_type ≡ type_
  pub repeats : page.descriptor.max_rep_level ≡ pos (max_repetition w)
  pub defines : page.descriptor.max_def_level ≡ pos (max_definition w)

-- What is stated of a column of these triples, whose dictionary has these entries: its statistics where they are wanted, and nothing where
-- not. Of more pairs or entries than a file counts nothing is known.
pub record AreStatedBy (wanted : Bool) (t : LeafType) (p : Physical) (entries : List (Option Value)) (ts : List Triple) (stated : Option ChunkStatistics) : Type 0 where
  pub out : Option Statistics
  pub are : length ts ≤ max_count → length entries ≤ max_count → stated ≡ option_map statistics_of out
  pub has : HasStatistics wanted t p out ts (bounded (Some entries) ts)
  pub exact : IsExact t p (bounded (Some entries) ts) out

-- the room of a page of the column, with its stored values, passes the sizes of a header
abbrev pub IsPastRoom : LeafType → Physical → List Triple → Type 0
IsPastRoom t p ts = (stored : List Triple) × AreStored t p ts stored × (max_size < room (length ts) (plain_length p (values_in stored)))

-- the dictionary page or the data page of a column is past its room
abbrev pub IsColumnPastRoom : LeafType → Physical → List Value → List Triple → Type 0
IsColumnPastRoom t p entries ts = AreTooLarge p entries ⊎ IsPastRoom t p ts

-- a body of the column: its level sections, and the indices
pub record IsIndexBody (version : Version) (nested : List Nested) (stored : ℕ → Value) (ns : List ℕ) (body : Body) : Type 0 where
  pub levels : List ℕ
  pub sections : AppendsSections version (path_way (parts_of nested)) (nested_column stored nested) [] levels (body.repetition, body.definition)
  pub indices : AppendsIndices levels body.buffer.items ns
