-- Data pages (Parquet format, "Data Pages", "Nested Encoding" and Encodings).
use Rattle.std.specs.Prelude.{◌≡◌, ℕ, ◌≤◌, pos, Option, option_map, None, List, [], length, map, count_by, is_none}
use Rattle.shredding.specs.Parts.{path_way}
use Rattle.shredding.specs.Shred.{Triple, max_repetition, max_definition}
use Rattle.shredding.specs.Slot.{Value}
use Rattle.columns_core.specs.Shapes.{leaf_type}
use Rattle.columns_slots.specs.Slots.{type_of}
use Rattle.columns_slots.specs.Tree.{ArrayTree}
use Rattle.levels.specs.declared.nested.Nested.{Nested}
use Rattle.levels.specs.Nested.{parts_of, nested_column}
use Rattle.level_sections.specs.Sections.{AppendsSections}
use Rattle.nested_paths.specs.LeafNulls.{value_at}
use Rattle.pq_tree.specs.declared.types.DataPageHeader.{DataPageHeader}
use Rattle.pq_tree.specs.declared.types.PrimitiveType.{PrimitiveType}
use Rattle.pq_tree.specs.declared.version.Version.{Version}
use Rattle.pq_tree.specs.Footers.{ChunkStatistics}
use Rattle.pq_tree.specs.Physical.{Physical}
use Rattle.pq_files.specs.Layout.{OutPage, plain_length}
use Rattle.pq_files.specs.Packed.{header_value}
use Rattle.pq_files.specs.Page.{Encoding, rows_in, values_in}
use Rattle.pq_files.specs.Room.{room, max_size}
use Rattle.pq_files.specs.Statistics.{Statistics, HasStatistics}
use Rattle.pq_files.specs.Written.{statistics_of}
use Rattle.pq_pages.specs.DataPages.{DataPageValue}
use Rattle.pq_pages.specs.Denotes.{Denotes}
use Rattle.pq_pages.specs.HeaderValue.{data_value}
use Rattle.page_statistics.specs.Spelled.{IsExact}
use Rattle.write_places.specs.Places.{path_places}
use Rattle.write_values.specs.declared.page.Body.{Body}
use Rattle.write_values.specs.declared.page.PageForm.{PageForm}
use Rattle.write_values.specs.Deltas.{AppendsSpelled, page_encoding}
use Rattle.write_values.specs.Stored.{stored_at}

abbrev pub out_page : Encoding → List Triple → Option Statistics → OutPage
out_page e ts st = record { triples = ts; encoding = e; statistics = st }

-- the column of a path over a leaf array: its values, and what is stored for them
abbrev pub value_column : ArrayTree → List Nested → List Triple
value_column a nested = nested_column (value_at a) nested

abbrev pub stored_column : ArrayTree → Physical → List Nested → List Triple
stored_column a p nested = nested_column (stored_at a p) nested

-- the room of a page of such a column
abbrev pub column_room : Physical → List Triple → ℕ
column_room p ts = room (length ts) (plain_length p (values_in ts))

-- The page stands for the column of a path over a leaf array, with what is stored for its values, in the encoding of the form that is asked for,
-- and has its statistics exactly where they are wanted. It is within its room, and its descriptor has the leaf's type and the greatest levels of
-- the path.
pub record IsColumnPage (form : PageForm) (a : ArrayTree) (p : Physical) (type_ : PrimitiveType) (nested : List Nested) (page : DataPageValue) : Type 0 where
  pub statistics : Option Statistics
  pub has : HasStatistics form.with_statistics (leaf_type (type_of a)) p statistics (value_column a nested) (values_in (value_column a nested))
  pub exact : IsExact (leaf_type (type_of a)) p (values_in (value_column a nested)) statistics
  pub denotes : Denotes form.version p (max_repetition (path_way (parts_of nested))) (max_definition (path_way (parts_of nested))) None (out_page (page_encoding form.with_deltas (leaf_type (type_of a)) p) (stored_column a p nested) statistics) page
  pub within : column_room p (stored_column a p nested) ≤ max_size
  pub about : page.descriptor.primitive_type ≡ type_
  pub repeats : page.descriptor.max_rep_level ≡ pos (max_repetition (path_way (parts_of nested)))
  pub defines : page.descriptor.max_def_level ≡ pos (max_definition (path_way (parts_of nested)))

-- ---- how it is made

-- a body of the column: its level sections, and the values that the path reaches, in the encoding
pub record IsBody (version : Version) (e : Encoding) (p : Physical) (nested : List Nested) (stored : ℕ → Value) (body : Body) : Type 0 where
  pub levels : List ℕ
  pub sections : AppendsSections version (path_way (parts_of nested)) (nested_column stored nested) [] levels (body.repetition, body.definition)
  pub values : AppendsSpelled e p levels body.buffer.items (map stored (path_places (parts_of nested)))

-- the header of the version for a page, whatever the size of its body
abbrev pub IsHeader : Version → OutPage → ℕ → ℕ → DataPageHeader → Type 0
IsHeader version out repetition definition header = (size : ℕ) → data_value header size ≡ header_value version out definition repetition size

-- a page in the encoding of which these statistics are stated, of so many pairs, nulls and rows
pub record IsOut (e : Encoding) (out : OutPage) (stated : Option ChunkStatistics) (pairs nulls rows : ℕ) : Type 0 where
  pub encoding : out.encoding ≡ e
  pub statistics : stated ≡ option_map statistics_of out.statistics
  pub has_pairs : length out.triples ≡ pairs
  pub has_nulls : count_by (λ t. is_none t.value) out.triples ≡ nulls
  pub has_rows : rows_in out.triples ≡ rows
