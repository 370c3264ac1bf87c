-- What a page holds of an array's rows (Parquet format, "Data Pages", "Nested Encoding").
use Rattle.std.specs.Prelude.{◌≡◌, ℕ, ◌≤◌, pos, Bool, true, false, Option, Some, None, List, [], ◌∷◌, length, drop, cond, ◌&&◌, All}
use Rattle.shredding.specs.Cut.{cut}
use Rattle.shredding.specs.Parts.{Part, path_slots, path_way}
use Rattle.shredding.specs.Shape.{LeafType, nothing, Way}
use Rattle.shredding.specs.Shred.{Triple, column, max_repetition, max_definition}
use Rattle.shredding.specs.Slot.{Slot}
use Rattle.columns_core.specs.Shapes.{leaf_type}
use Rattle.columns_entries.specs.Entries.{entries_of}
use Rattle.columns_slots.specs.Slots.{child_of, type_of}
use Rattle.columns_slots.specs.Tree.{ArrayTree}
use Rattle.levels.specs.InBounds.{bounded_slots}
use Rattle.nested_paths.specs.Seen.{leaf_slot}
use Rattle.pq_tree.specs.declared.types.Encoding.{Encoding as RustEncoding}
use Rattle.pq_tree.specs.declared.types.Encoding.TheVariants as E
use Rattle.pq_tree.specs.declared.types.PrimitiveType.{PrimitiveType}
use Rattle.pq_tree.specs.Footers.{ChunkStatistics}
use Rattle.pq_tree.specs.Physical.{Physical}
use Rattle.pq_tree.specs.Tree.{Tree}
use Rattle.pq_tree.specs.TreeViews.{leaf_view}
use Rattle.pq_tree.specs.Views.{physical_view}
use Rattle.pq_files.specs.Layout.{AreStoredEntries, OutPage, bounded, plain_length}
use Rattle.pq_files.specs.Page.{Encoding, plain, dictionary, delta, delta_length, values_in}
use Rattle.pq_files.specs.Room.{room, max_size}
use Rattle.pq_files.specs.Statistics.{HasStatistics}
use Rattle.pq_files.specs.Stored.{AreStored}
use Rattle.page_statistics.specs.Spelled.{HasOwnBytes, IsExact}
use Rattle.pq_pages.specs.DataPages.{DataPageValue}
use Rattle.pq_pages.specs.Denotes.{Denotes}
use Rattle.write_values.specs.Deltas.{page_encoding}
use Rattle.write_pages.specs.declared.options.WriteOptions.{WriteOptions}
use Rattle.write_pages.specs.Entries.{AreStatedWith, Entries, leaf_entries, owes_page, stored_list}
use Rattle.write_pages.specs.Fits.{is_flat_path}
use Rattle.write_pages.specs.Rule.{pieces_by_rule}

-- the encodings of pages, by the names that a writer is asked for
abbrev pub encoding_view : RustEncoding → Option Encoding
encoding_view E.Plain = Some plain
encoding_view E.PlainDictionary = Some dictionary
encoding_view E.RleDictionary = Some dictionary
encoding_view E.DeltaBinaryPacked = Some delta
encoding_view E.DeltaLengthByteArray = Some delta_length
encoding_view e = None

-- the encoding of a page: of a flat path the one that is asked for, of every other one PLAIN, and of nulls alone too
abbrev pub written_encoding : LeafType → List Part → RustEncoding → Option Encoding
written_encoding nothing parts e = Some plain
written_encoding t parts e = cond (is_flat_path parts) (encoding_view e) (Some plain)

-- whether a page is to have the deltas of its type
abbrev pub is_delta_encoding : RustEncoding → Bool
is_delta_encoding E.DeltaBinaryPacked = true
is_delta_encoding E.DeltaLengthByteArray = true
is_delta_encoding e = false

abbrev pub wants_deltas : List Part → RustEncoding → Bool
wants_deltas parts e = is_flat_path parts && is_delta_encoding e

-- What is stored for decimals are bytes, where it is byte strings. So a column of them has one list of stored values.
abbrev pub HaveBytes : LeafType → List Triple → Type 0
HaveBytes t stored = All (HasOwnBytes t) (values_in stored)

-- A page of some rows along a way, whose leaf is of the leaf type and of this node and physical type, in a column with these entries, if it
-- has a dictionary. It denotes the rows' column, with the stored value of each value, in the encoding, within its room, and with statistics
-- exactly where they are asked for, whose texts are those of the stored values; a dictionary's bounds are those of all its entries. Its descriptor is the node with the greatest
-- levels of the way.
pub record HoldsRows (o : WriteOptions) (e : Encoding) (t : LeafType) (node : Tree) (p : Physical) (w : Way) (entries : Entries) (rows : List Slot) (page : DataPageValue) : Type 0 where
  pub out : OutPage
  pub denotes : Denotes o.version p (max_repetition w) (max_definition w) (stored_list t p entries) out page
  pub triples : AreStored t p (column w rows) out.triples
  pub have_bytes : HaveBytes t out.triples
  pub encoding : out.encoding ≡ e
  pub statistics : HasStatistics o.write_statistics t p out.statistics (column w rows) (bounded entries (column w rows))
  pub exact : IsExact t p (bounded entries (column w rows)) out.statistics
  pub within : room (length out.triples) (plain_length p (values_in out.triples)) ≤ max_size
  pub about : leaf_view page.descriptor.primitive_type ≡ node
  pub repeats : page.descriptor.max_rep_level ≡ pos (max_repetition w)
  pub defines : page.descriptor.max_def_level ≡ pos (max_definition w)

-- the rows of a path in bounds over a leaf array, whatever lies beneath nulls
abbrev pub rows_of : List Part → ArrayTree → List Slot
rows_of parts a = bounded_slots (leaf_slot a) parts

-- Pages that are still to be given: how, in which encoding, of which column with which rows in all and which entries, whether the dictionary page is still
-- to come, for each data page the rows that it is to hold, and what is stated of the whole column.
pub record ToGive : Type 0 where
  pub options : WriteOptions
  pub encoding : Encoding
  pub type : LeafType
  pub node : Tree
  pub physical : Physical
  pub way : Way
  pub rows : List Slot
  pub entries : Entries
  pub owes_dictionary : Bool
  pub pieces : List (List Slot)
  pub statistics : Option ChunkStatistics

-- the pieces of so many rows that are left from a row on, and none after an error
abbrev pub pieces_left : Bool → ℕ → ℕ → List Slot → List (List Slot)
pieces_left true per_page next rows = []
pieces_left false per_page next rows = cut (drop next rows) (Some per_page)

-- What an iterator over the pages of values keeps: whether pages have deltas, the array, its path, the next row, the rows of a page, whether it
-- gave an error, and the statistics of the column.
pub record LeafState : Type 0 where
  pub options : WriteOptions
  pub with_deltas : Bool
  pub type_ : PrimitiveType
  pub array : ArrayTree
  pub parts : List Part
  pub next : ℕ
  pub per_page : ℕ
  pub has_failed : Bool
  pub statistics : Option ChunkStatistics

-- the pages that it is still to give
abbrev pub leaf_to_give : LeafState → ToGive
leaf_to_give s =
    record {
      options = s.options;
      encoding = page_encoding s.with_deltas (leaf_type (type_of s.array)) (physical_view s.type_.physical_type);
      type = leaf_type (type_of s.array);
      node = leaf_view s.type_;
      physical = physical_view s.type_.physical_type;
      way = path_way s.parts;
      rows = rows_of s.parts s.array;
      entries = None;
      owes_dictionary = false;
      pieces = pieces_left s.has_failed s.per_page s.next (rows_of s.parts s.array);
      statistics = s.statistics;
    }

-- What an iterator over the pages of a dictionary keeps: the array and its path, both of all rows, which of the two pages are still to come,
-- and the statistics of the column.
pub record DictionaryState : Type 0 where
  pub options : WriteOptions
  pub type_ : PrimitiveType
  pub array : ArrayTree
  pub parts : List Part
  pub owes_entries : Bool
  pub owes_rows : Bool
  pub statistics : Option ChunkStatistics

-- all rows as one piece, where their page is still to come
abbrev pub piece_owed : Bool → List Slot → List (List Slot)
piece_owed true rows = rows ∷ []
piece_owed false rows = []

abbrev pub dictionary_to_give : DictionaryState → ToGive
dictionary_to_give s =
    record {
      options = s.options;
      encoding = dictionary;
      type = leaf_type (type_of s.array);
      node = leaf_view s.type_;
      physical = physical_view s.type_.physical_type;
      way = path_way s.parts;
      rows = path_slots (leaf_slot s.array) s.parts;
      entries = Some (entries_of (child_of s.array));
      owes_dictionary = s.owes_entries;
      pieces = piece_owed s.owes_rows (path_slots (leaf_slot s.array) s.parts);
      statistics = s.statistics;
    }

-- without the first piece, and without any
abbrev pub later : ToGive → List (List Slot) → ToGive
later g pieces = record g { pieces = pieces }

-- behind the dictionary page
abbrev pub behind_dictionary : ToGive → ToGive
behind_dictionary g = record g { owes_dictionary = false }

-- behind an error
abbrev pub ended : ToGive → ToGive
ended g = record g { owes_dictionary = false; pieces = [] }

-- the encoding of the data pages of a column: that of dictionaries where it has one
abbrev pub column_encoding : Entries → LeafType → List Part → RustEncoding → Option Encoding
column_encoding None t parts e = written_encoding t parts e
column_encoding (Some es) t parts e = Some dictionary

-- the rows in pieces by the row rule, where their column is of these triples
pub record AreByRule (limit : Option ℕ) (t : LeafType) (p : Physical) (ts : List Triple) (rows : List Slot) (pieces : List (List Slot)) : Type 0 where
  pub stored : List Triple
  pub are_stored : AreStored t p ts stored
  pub have_bytes : HaveBytes t stored
  pub by_rule : pieces ≡ pieces_by_rule limit (plain_length p (values_in stored)) rows

-- all rows in one piece, where their column is of these triples, each value of which is stored
pub record AreOnePiece (t : LeafType) (p : Physical) (ts : List Triple) (rows : List Slot) (pieces : List (List Slot)) : Type 0 where
  pub stored : List Triple
  pub are_stored : AreStored t p ts stored
  pub have_bytes : HaveBytes t stored
  pub one : pieces ≡ cut rows None

-- those of a column: all rows of a dictionary in one piece
abbrev pub ArePieces : Entries → Option ℕ → LeafType → Physical → List Triple → List Slot → List (List Slot) → Type 0
ArePieces None limit t p ts rows pieces = AreByRule limit t p ts rows pieces
ArePieces (Some es) limit t p ts rows pieces = AreOnePiece t p ts rows pieces

-- The pages of a column: those of the rows of the path over the leaf array. Values are in pages by the row rule, in the encoding that is asked for where the path is
-- flat. A dictionary with rows has a dictionary page, which stores what its entries are, and one data page. The statistics of all rows are stated.
pub record IsPagesOf (o : WriteOptions) (type_ : PrimitiveType) (parts : List Part) (a : ArrayTree) (e : RustEncoding) (g : ToGive) : Type 0 where
  pub options : g.options ≡ o
  pub encoding : column_encoding (leaf_entries a) (leaf_type (type_of a)) parts e ≡ Some g.encoding
  pub type : g.type ≡ leaf_type (type_of a)
  pub node : g.node ≡ leaf_view type_
  pub physical : g.physical ≡ physical_view type_.physical_type
  pub way : g.way ≡ path_way parts
  pub rows : g.rows ≡ rows_of parts a
  pub entries : g.entries ≡ leaf_entries a
  pub stored_entries : AreStoredEntries (leaf_type (type_of a)) (physical_view type_.physical_type) (leaf_entries a) (stored_list (leaf_type (type_of a)) (physical_view type_.physical_type) (leaf_entries a))
  pub owes : g.owes_dictionary ≡ owes_page (leaf_entries a) (rows_of parts a)
  pub statistics : AreStatedWith o.write_statistics (leaf_type (type_of a)) (physical_view type_.physical_type) (leaf_entries a) (column (path_way parts) (rows_of parts a)) g.statistics
  pub pieces : ArePieces (leaf_entries a) o.data_pagesize_limit (leaf_type (type_of a)) (physical_view type_.physical_type) (column (path_way parts) (rows_of parts a)) (rows_of parts a) g.pieces
