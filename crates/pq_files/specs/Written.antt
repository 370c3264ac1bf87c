-- The Thrift values of pages and footers (Parquet format, parquet.thrift): exactly these ids, each once and ascending. Behind them stands what a packed file's footer states.
use Rattle.std.specs.Prelude.{ℕ, ℤ, ◌+◌, nat_le, pos, List, [], ◌∷◌, length, map as list_map, sum_by, Bool, true, false, cond, Option, Some, None, codes, option_map, count_by, is_none, is_some}
use Rattle.pq_thrift.specs.Value.{Value, truth, int8, int16, int32, int64, binary, list, struct, Values, Fields, no_fields, field, values_of}
use Rattle.pq_tree.specs.declared.version.Version.{Version}
use Rattle.pq_tree.specs.declared.version.Version.TheVariants.{V1, V2}
use Rattle.pq_metadata.specs.Elements.{number_of_repetition}
use Rattle.pq_metadata.specs.Footer.{ChunkStatistics, Key}
use Rattle.pq_files.specs.FooterRecord.{ColumnMetaData, ColumnChunk, RowGroup, FileMetaData}
use Rattle.pq_files.specs.Layout.{OutPage, OutChunk, OutGroup}
use Rattle.pq_files.specs.Page.{Encoding, plain, dictionary, delta, delta_length, rows_in}
use Rattle.pq_tree.specs.Physical.{Physical, number_of_physical}
use Rattle.pq_files.specs.Statistics.{Statistics}
use Rattle.pq_tree.specs.Tree.{Schema, Leaf, Element, count_trees, preorder_of, columns_of}
use Rattle.pq_tree.specs.Types.{TimeUnit, Converted, Logical, Info}

-- ---- fields

abbrev pub at : ℕ → Value → Fields → Fields
at id v fs = field (pos id) v fs

-- a field that stands only where there is a value
abbrev pub at_some : ℕ → Option Value → Fields → Fields
at_some id None fs = fs
at_some id (Some v) fs = field (pos id) v fs

abbrev pub i32 : ℕ → Value
i32 n = int32 (pos n)

abbrev pub i64 : ℕ → Value
i64 n = int64 (pos n)

abbrev pub structs : List Value → Value
structs vs = list 12 (values_of vs)

-- ---- pages

abbrev pub number_of_encoding : Encoding → ℕ
number_of_encoding plain = 0
number_of_encoding dictionary = 8
number_of_encoding delta = 5
number_of_encoding delta_length = 6

-- with a number of nulls, as it is always written
abbrev pub statistics_of : Statistics → ChunkStatistics
statistics_of s = record { null_count = Some (pos s.null_count); max_value = option_map (λ b. b.greatest) s.bounds; min_value = option_map (λ b. b.least) s.bounds }

abbrev pub statistics_value : ChunkStatistics → Value
statistics_value s = struct (at_some 3 (option_map int64 s.null_count) (at_some 5 (option_map binary s.max_value) (at_some 6 (option_map binary s.min_value) no_fields)))

abbrev pub page_statistics : OutPage → Option Value
page_statistics p = option_map statistics_value (option_map statistics_of p.statistics)

abbrev pub nulls : OutPage → ℕ
nulls p = count_by (λ t. is_none t.value) p.triples

-- a version 1 page of so many bytes
abbrev pub page_value_1 : OutPage → ℕ → Value
page_value_1 p size =
    struct
    (at 1 (i32 0)
    (at 2 (i32 size)
    (at 3 (i32 size)
    (at 5
    (struct
    (at 1 (i32 (length p.triples))
    (at 2 (i32 (number_of_encoding p.encoding))
    (at 3 (i32 3) (at 4 (i32 3) (at_some 5 (page_statistics p) no_fields))))))
    no_fields))))

-- a version 2 page of so many bytes, whose definition and repetition levels have these lengths
abbrev pub page_value_2 : OutPage → ℕ → ℕ → ℕ → Value
page_value_2 p size definition repetition =
    struct
    (at 1 (i32 3)
    (at 2 (i32 size)
    (at 3 (i32 size)
    (at 8
    (struct
    (at 1 (i32 (length p.triples))
    (at 2 (i32 (nulls p))
    (at 3 (i32 (rows_in p.triples))
    (at 4 (i32 (number_of_encoding p.encoding))
    (at 5 (i32 definition)
    (at 6 (i32 repetition) (at 7 (truth false) (at_some 8 (page_statistics p) no_fields)))))))))
    no_fields))))

-- a dictionary page of so many entries and bytes
abbrev pub dictionary_value : ℕ → ℕ → Value
dictionary_value n size = struct (at 1 (i32 2) (at 2 (i32 size) (at 3 (i32 size) (at 7 (struct (at 1 (i32 n) (at 2 (i32 0) (at 3 (truth false) no_fields)))) no_fields))))

-- ---- the tree

abbrev pub number_of_converted : Converted → ℕ
number_of_converted Converted.utf8 = 0
number_of_converted Converted.map = 1
number_of_converted Converted.map_key_value = 2
number_of_converted Converted.list = 3
number_of_converted Converted.enum = 4
number_of_converted (Converted.decimal p s) = 5
number_of_converted Converted.date = 6
number_of_converted Converted.time_millis = 7
number_of_converted Converted.time_micros = 8
number_of_converted Converted.timestamp_millis = 9
number_of_converted Converted.timestamp_micros = 10
number_of_converted (Converted.unsigned w) = cond (nat_le w 8) 11 (cond (nat_le w 16) 12 (cond (nat_le w 32) 13 14))
number_of_converted (Converted.signed w) = cond (nat_le w 8) 15 (cond (nat_le w 16) 16 (cond (nat_le w 32) 17 18))
number_of_converted Converted.json = 19
number_of_converted Converted.bson = 20
number_of_converted Converted.interval = 21

abbrev pub empty : Value
empty = struct no_fields

abbrev pub number_of_unit : TimeUnit → ℕ
number_of_unit TimeUnit.millis = 1
number_of_unit TimeUnit.micros = 2
number_of_unit TimeUnit.nanos = 3

abbrev pub time_fields : Bool → TimeUnit → Value
time_fields adjusted u = struct (at 1 (truth adjusted) (at 2 (struct (at (number_of_unit u) empty no_fields)) no_fields))

abbrev pub one : ℕ → Value → Value
one id v = struct (at id v no_fields)

abbrev pub logical_value : Logical → Value
logical_value Logical.string = one 1 empty
logical_value Logical.map = one 2 empty
logical_value Logical.list = one 3 empty
logical_value Logical.enum = one 4 empty
logical_value (Logical.decimal p s) = one 5 (struct (at 1 (i32 s) (at 2 (i32 p) no_fields)))
logical_value Logical.date = one 6 empty
logical_value (Logical.time adjusted u) = one 7 (time_fields adjusted u)
logical_value (Logical.timestamp adjusted u) = one 8 (time_fields adjusted u)
logical_value (Logical.integer w signed) = one 10 (struct (at 1 (int8 (pos w)) (at 2 (truth signed) no_fields)))
logical_value Logical.unknown = one 11 empty
logical_value Logical.json = one 12 empty
logical_value Logical.bson = one 13 empty
logical_value Logical.uuid = one 14 empty

abbrev pub length_of : Physical → Option Value
length_of (Physical.fixed n) = Some (i32 n)
length_of p = None

abbrev pub scale_of : Option Converted → Option Value
scale_of (Some (Converted.decimal p s)) = Some (i32 s)
scale_of c = None

abbrev pub precision_of : Option Converted → Option Value
precision_of (Some (Converted.decimal p s)) = Some (i32 p)
precision_of c = None

abbrev pub tree_root : Schema → Value
tree_root s = struct (at 4 (binary s.name) (at 5 (i32 (count_trees s.fields)) no_fields))

abbrev pub repetition_value : Info → Value
repetition_value i = int32 (number_of_repetition i.repetition)

abbrev pub annotations : Info → Option Value × Option Value
annotations i = (option_map (λ c. i32 (number_of_converted c)) i.converted, option_map logical_value i.logical)

abbrev pub element_of : Option Physical → ℕ → Info → Value
element_of None children i =
    struct (at 3 (repetition_value i) (at 4 (binary i.name) (at 5 (i32 children) (at_some 6 (annotations i).0 (at_some 10 (annotations i).1 no_fields)))))
element_of (Some p) children i =
    struct
    (at 1 (i32 (number_of_physical p))
    (at_some 2 (length_of p)
    (at 3 (repetition_value i)
    (at 4 (binary i.name)
    (at_some 6 (annotations i).0
    (at_some 7 (scale_of i.converted)
    (at_some 8 (precision_of i.converted) (at_some 10 (annotations i).1 no_fields))))))))

abbrev pub element_value : Element → Value
element_value e = element_of e.physical e.children e.info

-- ---- columns and groups

abbrev pub column_value : ColumnMetaData → Value
column_value c =
    struct
    (at 1 (int32 c.type)
    (at 2 (list 5 (values_of (list_map int32 c.encodings)))
    (at 3 (list 8 (values_of (list_map binary c.path_in_schema)))
    (at 4 (int32 c.codec)
    (at 5 (int64 c.num_values)
    (at 6 (int64 c.total_uncompressed_size)
    (at 7 (int64 c.total_compressed_size)
    (at 9 (int64 c.data_page_offset)
    (at_some 11 (option_map int64 c.dictionary_page_offset) (at_some 12 (option_map statistics_value c.statistics) no_fields))))))))))

abbrev pub chunk_value : ColumnChunk → Value
chunk_value c = struct (at 2 (int64 c.file_offset) (at 3 (column_value c.meta_data) no_fields))

abbrev pub group_value : RowGroup → Value
group_value g =
    struct
    (at 1 (structs (list_map chunk_value g.columns))
    (at 2 (int64 g.total_byte_size)
    (at 3 (int64 g.num_rows)
    (at 5 (int64 g.file_offset) (at 6 (int64 g.total_compressed_size) (at_some 7 (option_map int16 g.ordinal) no_fields))))))

-- ---- the footer

abbrev pub key_value : Key → Value
key_value k = struct (at 1 (binary k.key) (at_some 2 (option_map binary k.value) no_fields))

abbrev pub keys_value : List Key → Option Value
keys_value [] = None
keys_value (k ∷ ks) = Some (structs (list_map key_value (k ∷ ks)))

-- the tree in preorder, behind the root
abbrev pub elements_of : Schema → Values
elements_of tree = values_of (tree_root tree ∷ list_map element_value (preorder_of tree.fields))

-- each column has the order of its type
abbrev pub orders_value : Schema → Value
orders_value tree = structs (list_map (λ l. one 1 empty) (columns_of tree))

abbrev pub footer_value : FileMetaData → Value
footer_value m =
    struct
    (at 1 (int32 m.version)
    (at 2 (list 12 (elements_of m.schema))
    (at 3 (int64 m.num_rows)
    (at 4 (structs (list_map group_value m.row_groups))
    (at_some 5 (keys_value m.keys) (at 6 (binary m.created_by) (at 7 (orders_value m.schema) no_fields)))))))

-- ---- what a packed file's footer states

-- where a chunk stands: its start, and the bytes of its dictionary page and of all its pages
pub record Place : Type 0 where
  pub start : ℕ
  pub dictionary : ℕ
  pub size : ℕ

-- the encodings of levels and data, and that of a dictionary page, each once and ascending
abbrev pub encodings_of : Encoding → Bool → List ℕ
encodings_of plain has_dictionary = 0 ∷ 3 ∷ []
encodings_of dictionary false = 3 ∷ 8 ∷ []
encodings_of dictionary true = 0 ∷ 3 ∷ 8 ∷ []
encodings_of delta false = 3 ∷ 5 ∷ []
encodings_of delta true = 0 ∷ 3 ∷ 5 ∷ []
encodings_of delta_length false = 3 ∷ 6 ∷ []
encodings_of delta_length true = 0 ∷ 3 ∷ 6 ∷ []

-- the encoding of the data pages, which all have the same one
abbrev pub encoding_in : List OutPage → Encoding
encoding_in [] = plain
encoding_in (p ∷ ps) = p.encoding

abbrev pub pairs_in : OutChunk → ℕ
pairs_in c = sum_by (λ p. length p.triples) c.pages

abbrev pub column_record : Leaf → OutChunk → Place → ColumnMetaData
column_record l c w =
    record {
      type = pos (number_of_physical l.physical);
      encodings = list_map (λ n. pos n) (encodings_of (encoding_in c.pages) (is_some c.entries));
      path_in_schema = list_map (λ i. i.name) l.path;
      codec = pos 0;
      num_values = pos (pairs_in c);
      total_uncompressed_size = pos w.size;
      total_compressed_size = pos w.size;
      data_page_offset = pos (w.start + w.dictionary);
      dictionary_page_offset = option_map (λ entries. pos w.start) c.entries;
      statistics = option_map statistics_of c.statistics;
    }

abbrev pub chunk_record : Leaf → OutChunk → Place → ColumnChunk
chunk_record l c w = record { file_offset = pos w.start; meta_data = column_record l c w }

-- the group's place in the file, where it fits
abbrev pub ordinal_of : ℕ → Option ℤ
ordinal_of i = cond (nat_le i 32767) (Some (pos i)) None

-- a group at its place, with its columns, its rows, and where it starts and how many bytes it has
abbrev pub group_record : ℕ → List ColumnChunk → ℕ → ℕ → ℕ → RowGroup
group_record i columns rows start size =
    record { columns = columns; total_byte_size = pos size; num_rows = pos rows; file_offset = pos start; total_compressed_size = pos size; ordinal = ordinal_of i }

abbrev pub created_by : List ℕ
created_by = codes "Arrow2 - Native Rust implementation of Arrow"

abbrev pub version_number : Version → ℕ
version_number V1 = 1
version_number V2 = 2

abbrev pub footer_record : Version → Schema → List Key → List OutGroup → List RowGroup → FileMetaData
footer_record version tree keys groups row_groups =
    record {
      version = pos (version_number version);
      schema = tree;
      num_rows = pos (sum_by (λ g. g.rows) groups);
      row_groups = row_groups;
      keys = keys;
      created_by = created_by;
    }
