-- How the columns of a group are laid out (Parquet format, "Data Pages", "Column chunks").
use Rattle.std.specs.Prelude.{◌≡◌, ℕ, Bool, cond, ◌&&◌, All, Option, Some, None, List, [], ◌∷◌, ◌++◌, map, true, false}
use Rattle.shredding.specs.Parts.{Part}
use Rattle.shredding.specs.Shape.{AreOf, LeafType, nothing, Way, in_struct, ways}
use Rattle.shredding.specs.Slot.{Slots, fields}
use Rattle.columns_core.specs.Shapes.{base, leaf_type, shapes_of}
use Rattle.columns_slots.specs.Slots.{AreSound, AreTyped, first_len, slots, type_of}
use Rattle.columns_slots.specs.Tree.{ArrayTree, ArrayTrees}
use Rattle.nested_paths.specs.Seen.{IsSeen, read_all, read_by, shape_by}
use Rattle.pq_files.specs.Layout.{OutChunk, OutGroup, delta_of}
use Rattle.pq_files.specs.Page.{Encoding, plain, dictionary}
use Rattle.pq_headline.specs.Columns.{ArrowColumn, is_flat, schema_columns}
use Rattle.pq_headline.specs.Output.{Style, IsLaid, AreLaid, IsLaidGroup, all_chosen}
use Rattle.pq_headline.specs.Served.{are_served_fields}
use Rattle.pq_headline.specs.Rows.{field_slots}
use Rattle.pq_tree.specs.Tree.{Leaf, Tree, Trees, no_trees, tree, columns_of, leaves}
use Rattle.pq_tree.specs.declared.types.Encoding.{Encoding as RustEncoding}
use Rattle.pq_tree.specs.declared.version.Version.{Version}
use Rattle.write_pages.specs.Columns.{IsColumn, LeafNode}
use Rattle.write_pages.specs.Entries.{Entries, leaf_entries}
use Rattle.write_pages.specs.Holds.{ToGive, encoding_view}
use Rattle.write_pages.specs.Rule.{page_limit}
use Rattle.write_pages.specs.declared.options.WriteOptions.{WriteOptions}
use Rattle.nested_paths.specs.Leaves.{array_leaves}
use Rattle.write_file.specs.Pages.{AllGive}
use Rattle.write_groups.specs.Columns.{AreFieldColumns}
use Rattle.write_groups.specs.Given.{BeginsColumn, GivesChunk, to_come}
use Rattle.columns_array.specs.Chunks.{AreEven}
use Rattle.columns_core.specs.Tree.{TypeTree, field, FieldTrees, no_fields, more_fields}
use Rattle.columns_slots.specs.Types.{is_leaf}
use Rattle.write_values.specs.Deltas.{encoding_name}
use Rattle.pq_headline.specs.Arrays.{all_entries, rows_of}
use Rattle.pq_tree.specs.TreeViews.{trees_view}
use Rattle.schema_to_tree.specs.Table.{schema_of}
use Rattle.write_groups.specs.Writing.{HasColumns, IsGroupOf}
use Rattle.write_groups.specs.declared.group.RowGroupIter.{RowGroupIter}
use Rattle.write_groups.specs.declared.column.ChunkColumn.{ChunkColumn}

abbrev pub style_of : WriteOptions → Style
style_of o = record { page_limit = page_limit o.data_pagesize_limit; statistics = o.write_statistics }

-- ---- encodings

-- the encoding of values that are asked for in this one: of a flat column that one, of every other one PLAIN, and of nulls alone too
abbrev pub value_encoding : LeafType → Bool → RustEncoding → Option Encoding
value_encoding nothing flat e = Some plain
value_encoding t flat e = cond flat (encoding_view e) (Some plain)

-- the encoding of the data pages of a column with these entries, if it has a dictionary: then it is that of dictionaries
abbrev pub used_encoding : ArrowColumn → Entries → RustEncoding → Option Encoding
used_encoding c None e = value_encoding (leaf_type c.data_type) (is_flat c) e
used_encoding c (Some es) e = Some dictionary

-- for each column, with its entries and the encoding that it is asked for in, the one that is used
abbrev pub AreUsed : List ArrowColumn → List Entries → List RustEncoding → List Encoding → Type 0
AreUsed [] [] [] [] = Unit {0}
AreUsed (c ∷ cs) (d ∷ ds) (e ∷ es) (x ∷ xs) = (used_encoding c d e ≡ Some x) × AreUsed cs ds es xs
AreUsed _ _ _ _ = ⊥

-- the encodings of the pages that columns give
abbrev pub encodings_of : List ChunkColumn → List Encoding
encodings_of columns = map (λ s. (to_come s).encoding) columns

-- the encodings that the leaves of all fields are asked for in, one field after another
abbrev pub all_names : List (List RustEncoding) → List RustEncoding
all_names [] = []
all_names (es ∷ ess) = es ++ all_names ess

abbrev pub names_in : RowGroupIter → List RustEncoding
names_in g = all_names (map (λ es. es.items) g.encodings.items)

-- the encoding that is chosen for a leaf of a field of the type: where deltas are wanted and the leaf is the field's own the one that its type
-- allows, else PLAIN
abbrev pub field_encoding : Bool → TypeTree → Leaf → Encoding
field_encoding wants_deltas t l = cond (wants_deltas && is_leaf (base t)) (delta_of (leaf_type t) l.physical) plain

-- those of the leaves of each field and its tree, by their names
abbrev pub AreChosen : Bool → FieldTrees → Trees → List (List RustEncoding) → Type 0
AreChosen wants_deltas no_fields no_trees [] = Unit {0}
AreChosen wants_deltas (more_fields (field name t is_nullable metadata) fs) (tree u us) (es ∷ ess) =
    (es ≡ map (λ l. encoding_name (field_encoding wants_deltas t l)) (leaves u)) × AreChosen wants_deltas fs us ess
AreChosen wants_deltas _ _ _ = ⊥

-- Columns that are asked for in the encodings that are chosen for them, dictionaries in that of dictionaries, are in these.
abbrev pub ChosenAreUsed : Type 0
ChosenAreUsed =
    (wants_deltas : Bool) (fs : FieldTrees) (cs : ArrayTrees) (xs : List Encoding) → AreTyped fs cs → AreSound (first_len cs) cs
    → AreUsed (schema_columns fs) (all_entries cs) (map encoding_name (all_chosen wants_deltas (schema_columns fs) (columns_of (schema_of fs)))) xs → xs ≡ all_chosen wants_deltas (schema_columns fs) (columns_of (schema_of fs))

-- ---- columns

-- A column whose path is what is seen of the slots of field i in some rows, and which gives a chunk: the chunk is laid out, in the encoding that is
-- used where the column is asked for in this one, with the entries of the array and by the row rule, or in one page where there are some, as the
-- rows' column along the way beneath the schema's own struct.
abbrev pub ColumnsAreLaid : Type 0
ColumnsAreLaid =
    (o : WriteOptions) (node : LeafNode) (parts : List Part) (a : ArrayTree) (e : RustEncoding) (g : ToGive) (version : Version) (l : Leaf) (chunk : OutChunk) (c : ArrowColumn) (i : ℕ) (w : Way) (rows : List Slots)
    → IsColumn o node parts a e g → IsSeen (field_slots i rows) w parts a → GivesChunk version l chunk g → c.way ≡ in_struct false i w → leaf_type (type_of a) ≡ leaf_type c.data_type
    → (used_encoding c (leaf_entries a) e ≡ Some g.encoding) × IsLaid (style_of o) g.encoding (record { arrow = c; physical = l.physical; entries = leaf_entries a }) (map fields rows) chunk

-- for each way of the field at a place, with the array of its leaf, the column of the schema
abbrev pub AreOwnColumns : ℕ → List Way → List ArrayTree → List ArrowColumn → Type 0
AreOwnColumns i [] [] [] = Unit {0}
AreOwnColumns i (w ∷ ws) (a ∷ arrays) (c ∷ cs) = (c.way ≡ in_struct false i w) × (leaf_type (type_of a) ≡ leaf_type c.data_type) × AreOwnColumns i ws arrays cs
AreOwnColumns i _ _ _ = ⊥

-- The same of all columns of a field: where what its tree reads of the array are the slots of field i, and the columns are those of the array's ways.
abbrev pub FieldsAreLaid : Type 0
FieldsAreLaid =
    (o : WriteOptions) (a : ArrayTree) (t : Tree) (es : List RustEncoding) (columns : List ChunkColumn) (version : Version) (chunks : List OutChunk) (cs : List ArrowColumn) (i : ℕ) (rows : List Slots)
    → AreFieldColumns o a t es columns → AllGive BeginsColumn version (leaves t) chunks columns → slots (read_by a t) ≡ field_slots i rows → AreOwnColumns i (ways (shape_by a t)) (array_leaves a) cs
    → AreUsed cs (map leaf_entries (array_leaves a)) es (encodings_of columns) × AreLaid (style_of o) rows cs (leaves t) (encodings_of columns) (map leaf_entries (array_leaves a)) chunks

-- ---- groups

-- The group is laid out as the rows are to be that the trees of the fields read of the chunk: each column with the entries of its array, and in the
-- encoding that is used where it is asked for in the one that was handed on.
pub record IsLaidFor (fs : FieldTrees) (g : RowGroupIter) (out : OutGroup) : Type 0 where
  pub used : AreUsed (schema_columns fs) (all_entries g.chunk) (names_in g) (encodings_of g.columns.items)
  pub laid : IsLaidGroup (style_of g.options) (rows_of (read_all g.chunk (schema_of fs).fields)) (schema_columns fs) (columns_of (schema_of fs)) (encodings_of g.columns.items) (all_entries g.chunk) out

-- The group that the columns of a chunk give is laid out so, where the arrays have the types of the fields and one length and are written by the trees of
-- the fields. What was accepted is of types that pages have, dictionaries among them.
abbrev pub GroupsAreLaid : Type 0
GroupsAreLaid = (fs : FieldTrees) (g : RowGroupIter) (out : OutGroup) → AreTyped fs g.chunk → AreEven g.chunk → trees_view g.fields.items ≡ (schema_of fs).fields → HasColumns g → IsGroupOf fs g out → IsLaidFor fs g out

-- Rows of the schema are read as they are: masks that its trees do not look at hide none of them.
abbrev pub RowsAreRead : Type 0
RowsAreRead = (fs : FieldTrees) (cs : ArrayTrees) → AreTyped fs cs → AreSound (first_len cs) cs → All (AreOf (shapes_of fs)) (rows_of cs) → rows_of (read_all cs (schema_of fs).fields) ≡ rows_of cs

-- The group of a chunk of rows of the schema is laid out, in the encodings that are chosen and without dictionaries, as its rows are to be, where all
-- fields are of types that the program serves.
abbrev pub ServedGroupsAreLaid : Type 0
ServedGroupsAreLaid =
    (wants_deltas : Bool) (fs : FieldTrees) (g : RowGroupIter) (out : OutGroup) → AreTyped fs g.chunk → AreEven g.chunk → All (AreOf (shapes_of fs)) (rows_of g.chunk) → trees_view g.fields.items ≡ (schema_of fs).fields
    → are_served_fields fs ≡ true → AreChosen wants_deltas fs (schema_of fs).fields (map (λ es. es.items) g.encodings.items) → HasColumns g → IsGroupOf fs g out
    → IsLaidGroup (style_of g.options) (rows_of g.chunk) (schema_columns fs) (columns_of (schema_of fs)) (all_chosen wants_deltas (schema_columns fs) (columns_of (schema_of fs))) (map (λ c. None) (schema_columns fs)) out
