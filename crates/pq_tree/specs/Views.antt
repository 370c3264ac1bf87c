-- What the Rust records stand for.
use Rattle.std.specs.Prelude.{ℕ, ℤ, pos, negsuc, List, map as list_map, option_map, true, false, Vec}
use Rattle.std.specs.Global.{Global}
use Rattle.std.specs.Prelude.{string_bytes}
use Rattle.pq_tree.specs.declared.types.Repetition.{Repetition}
use Rattle.pq_tree.specs.declared.types.Repetition.TheVariants as R
use Rattle.columns_base.specs.declared.physical.PhysicalType.{PhysicalType}
use Rattle.columns_base.specs.declared.physical.PhysicalType.TheVariants as P
use Rattle.pq_tree.specs.declared.types.TimeUnit.{TimeUnit}
use Rattle.pq_tree.specs.declared.types.TimeUnit.TheVariants as U
use Rattle.pq_tree.specs.declared.types.IntegerType.{IntegerType}
use Rattle.pq_tree.specs.declared.types.IntegerType.TheVariants as I
use Rattle.pq_tree.specs.declared.types.ConvertedType.{ConvertedType}
use Rattle.pq_tree.specs.declared.types.ConvertedType.TheVariants as C
use Rattle.pq_tree.specs.declared.types.LogicalType.{LogicalType}
use Rattle.pq_tree.specs.declared.types.LogicalType.TheVariants as L
use Rattle.pq_tree.specs.declared.types.SchemaElement.{SchemaElement}
use Rattle.pq_tree.specs.declared.types.ColumnChunkMetaData.{ColumnChunkMetaData}
use Rattle.pq_tree.specs.declared.types.Statistics.{Statistics}
use Rattle.pq_tree.specs.declared.types.RowGroupMetaData.{RowGroupMetaData}
use Rattle.pq_tree.specs.declared.types.KeyValue.{KeyValue}
use Rattle.pq_tree.specs.declared.types.DataPageHeaderV1.{DataPageHeaderV1}
use Rattle.pq_tree.specs.declared.types.DataPageHeaderV2.{DataPageHeaderV2}
use Rattle.pq_tree.specs.declared.types.DictionaryPageHeader.{DictionaryPageHeader}
use Rattle.pq_tree.specs.declared.types.DataPageHeader.TheVariants as D
use Rattle.pq_tree.specs.declared.types.TypedPageHeader.{TypedPageHeader}
use Rattle.pq_tree.specs.declared.types.TypedPageHeader.TheVariants as T
use Rattle.pq_tree.specs.declared.types.PageHeader.{PageHeader as RustPageHeader}
use Rattle.pq_tree.specs.declared.types.FlatFooter.{FlatFooter as RustFlatFooter}
use Rattle.pq_tree.specs.Types as S
use Rattle.pq_tree.specs.Physical as F
use Rattle.pq_tree.specs.Tree.{Element}
use Rattle.pq_tree.specs.Footers.{ChunkStatistics, ChunkMeta, GroupMeta, Key, FlatFooter}
use Rattle.pq_tree.specs.Headers.{DataHeader, DataHeader2, DictionaryHeader, Header, data_page, data_page_2, dictionary_page, PageHeader}

abbrev pub repetition_view : Repetition → S.Repetition
repetition_view R.Required = S.Repetition.required
repetition_view R.Optional = S.Repetition.optional
repetition_view R.Repeated = S.Repetition.repeated

abbrev pub physical_view : PhysicalType → F.Physical
physical_view P.Boolean = F.Physical.boolean
physical_view P.Int32 = F.Physical.int32
physical_view P.Int64 = F.Physical.int64
physical_view P.Int96 = F.Physical.int96
physical_view P.Float = F.Physical.float
physical_view P.Double = F.Physical.double
physical_view P.ByteArray = F.Physical.byte_array
physical_view (P.FixedLenByteArray n) = F.Physical.fixed n

abbrev pub unit_view : TimeUnit → S.TimeUnit
unit_view U.Milliseconds = S.TimeUnit.millis
unit_view U.Microseconds = S.TimeUnit.micros
unit_view U.Nanoseconds = S.TimeUnit.nanos

abbrev pub integer_view : IntegerType → S.Logical
integer_view I.Int8 = S.Logical.integer 8 true
integer_view I.Int16 = S.Logical.integer 16 true
integer_view I.Int32 = S.Logical.integer 32 true
integer_view I.Int64 = S.Logical.integer 64 true
integer_view I.UInt8 = S.Logical.integer 8 false
integer_view I.UInt16 = S.Logical.integer 16 false
integer_view I.UInt32 = S.Logical.integer 32 false
integer_view I.UInt64 = S.Logical.integer 64 false

abbrev pub converted_view : ConvertedType → S.Converted
converted_view C.Utf8 = S.Converted.utf8
converted_view C.Map = S.Converted.map
converted_view C.MapKeyValue = S.Converted.map_key_value
converted_view C.List = S.Converted.list
converted_view C.Enum = S.Converted.enum
converted_view (C.Decimal precision scale) = S.Converted.decimal precision scale
converted_view C.Date = S.Converted.date
converted_view C.TimeMillis = S.Converted.time_millis
converted_view C.TimeMicros = S.Converted.time_micros
converted_view C.TimestampMillis = S.Converted.timestamp_millis
converted_view C.TimestampMicros = S.Converted.timestamp_micros
converted_view C.Uint8 = S.Converted.unsigned 8
converted_view C.Uint16 = S.Converted.unsigned 16
converted_view C.Uint32 = S.Converted.unsigned 32
converted_view C.Uint64 = S.Converted.unsigned 64
converted_view C.Int8 = S.Converted.signed 8
converted_view C.Int16 = S.Converted.signed 16
converted_view C.Int32 = S.Converted.signed 32
converted_view C.Int64 = S.Converted.signed 64
converted_view C.Json = S.Converted.json
converted_view C.Bson = S.Converted.bson
converted_view C.Interval = S.Converted.interval

abbrev pub logical_view : LogicalType → S.Logical
logical_view L.String = S.Logical.string
logical_view L.Map = S.Logical.map
logical_view L.List = S.Logical.list
logical_view L.Enum = S.Logical.enum
logical_view (L.Decimal precision scale) = S.Logical.decimal precision scale
logical_view L.Date = S.Logical.date
logical_view (L.Time unit adjusted) = S.Logical.time adjusted (unit_view unit)
logical_view (L.Timestamp unit adjusted) = S.Logical.timestamp adjusted (unit_view unit)
logical_view (L.Integer i) = integer_view i
logical_view L.Unknown = S.Logical.unknown
logical_view L.Json = S.Logical.json
logical_view L.Bson = S.Logical.bson
logical_view L.Uuid = S.Logical.uuid

abbrev pub element_view : SchemaElement → Element
element_view e =
    record {
      physical = option_map physical_view e.physical_type;
      children = e.num_children;
      info =
          record {
            name = string_bytes e.field_info.name;
            repetition = repetition_view e.field_info.repetition;
            id = e.field_info.id;
            converted = option_map converted_view e.converted_type;
            logical = option_map logical_view e.logical_type;
          };
    }

-- a copied vector's bytes
abbrev pub bytes_view : Vec ℕ Global → List ℕ
bytes_view v = v.items

abbrev pub statistics_view : Statistics → ChunkStatistics
statistics_view s = record { null_count = s.null_count; max_value = option_map bytes_view s.max_value; min_value = option_map bytes_view s.min_value }

abbrev pub chunk_view : ColumnChunkMetaData → ChunkMeta
chunk_view c =
    record {
      file_path = option_map string_bytes c.file_path;
      physical = c.physical_type;
      codec = c.codec;
      num_values = c.num_values;
      size = c.total_compressed_size;
      data_page = c.data_page_offset;
      dictionary_page = c.dictionary_page_offset;
      statistics = option_map statistics_view c.statistics;
    }

abbrev pub group_view : RowGroupMetaData → GroupMeta
group_view g = record { chunks = list_map chunk_view g.columns.items; num_rows = g.num_rows }

abbrev pub key_view : KeyValue → Key
key_view k = record { key = string_bytes k.key; «value» = option_map string_bytes k.«value» }

abbrev pub flat_view : RustFlatFooter → FlatFooter
flat_view f =
    record {
      name = string_bytes f.name;
      children = f.num_children;
      nodes = list_map element_view f.elements.items;
      groups = list_map group_view f.row_groups.items;
      keys = list_map key_view f.key_value_metadata.items;
    }

-- a number that is not negative
abbrev pub natural_part : ℤ → ℕ
natural_part (pos n) = n
natural_part (negsuc n) = 0

abbrev pub v1_view : DataPageHeaderV1 → DataHeader
v1_view h =
    record {
      num_values = natural_part h.num_values;
      encoding = h.encoding;
      definition_encoding = h.definition_level_encoding;
      repetition_encoding = h.repetition_level_encoding;
    }

abbrev pub v2_view : DataPageHeaderV2 → DataHeader2
v2_view h =
    record {
      num_values = natural_part h.num_values;
      num_rows = natural_part h.num_rows;
      encoding = h.encoding;
      definition_length = natural_part h.definition_levels_byte_length;
      repetition_length = natural_part h.repetition_levels_byte_length;
    }

abbrev pub dictionary_view : DictionaryPageHeader → DictionaryHeader
dictionary_view h = record { num_values = natural_part h.num_values; encoding = h.encoding }

abbrev pub typed_view : TypedPageHeader → Header
typed_view (T.Data (D.V1 h)) = data_page (v1_view h)
typed_view (T.Data (D.V2 h)) = data_page_2 (v2_view h)
typed_view (T.Dictionary h) = dictionary_page (dictionary_view h)

abbrev pub page_header_view : RustPageHeader → PageHeader
page_header_view h = record { header = typed_view h.header; size = h.compressed_page_size }
