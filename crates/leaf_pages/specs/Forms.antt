-- The encodings of one kind of array (Parquet format, Encodings).
use Rattle.std.specs.Prelude.{◌≡◌, Bool, true, false, Some}
use Rattle.columns_core.specs.Shapes.{leaf_type}
use Rattle.columns_slots.specs.Slots.{type_of}
use Rattle.leaf_pages.specs.Columns.{IsPageAlong, PathColumn, column_physical}
use Rattle.pq_files.specs.Page.{Encoding}
use Rattle.pq_pages.specs.DataPages.{DataPageValue}
use Rattle.pq_pages.specs.declared.page.Page.{Page}
use Rattle.pq_pages.specs.declared.page.Page.TheVariants.{Data}
use Rattle.pq_tree.specs.Physical.{Physical, int32, int64, byte_array}
use Rattle.pq_tree.specs.declared.types.Encoding.{Encoding as RustEncoding}
use Rattle.pq_tree.specs.declared.types.Encoding.TheVariants as E
use Rattle.write_pages.specs.Fits.{is_written_as}
use Rattle.write_pages.specs.Holds.{encoding_view, written_encoding}
use Rattle.write_pages.specs.declared.options.WriteOptions.{WriteOptions}

-- Whether values that are stored so are written in the encoding: all in PLAIN, numbers in DELTA_BINARY_PACKED, byte strings in DELTA_LENGTH_BYTE_ARRAY.
abbrev pub has_form : RustEncoding → Physical → Bool
has_form E.Plain p = true
has_form E.DeltaBinaryPacked int32 = true
has_form E.DeltaBinaryPacked int64 = true
has_form E.DeltaBinaryPacked p = false
has_form E.DeltaLengthByteArray byte_array = true
has_form E.DeltaLengthByteArray p = false
has_form e p = false

-- the page of the column, in the encoding of this name
abbrev pub IsPageNamed : WriteOptions → RustEncoding → PathColumn → DataPageValue → Type 0
IsPageNamed o name c page = (e : Encoding) × (encoding_view name ≡ Some e) × IsPageAlong o e c page

-- whether values of the column's type are written in the encoding, if it is no more than its leaf
abbrev pub is_flat_form : RustEncoding → PathColumn → Bool
is_flat_form name c = is_written_as name (type_of c.array) (column_physical c)

-- the page of a column that is no more than its leaf, in the encoding of this name: of nulls alone in PLAIN
abbrev pub IsFlatPage : WriteOptions → RustEncoding → PathColumn → Page → Type 0
IsFlatPage o name c given =
    (page : DataPageValue) × (given ≡ Data page) × (e : Encoding) × (written_encoding (leaf_type (type_of c.array)) c.parts name ≡ Some e) × IsPageAlong o e c page
