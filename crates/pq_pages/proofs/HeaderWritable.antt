-- A page's header can be written.
use Rattle.std.proofs.Common.{ℕ, Option, Some, None, option_map}
use Rattle.pq_thrift.specs.Spelling.{IsStruct, IsWritable, AreFieldsWritable}
use Rattle.pq_thrift.specs.Value.{Value, truth, int32, int64, binary, Fields, no_fields}
use Rattle.pq_tree.specs.declared.types.DataPageHeader.{DataPageHeader}
use Rattle.pq_tree.specs.declared.types.DataPageHeader.TheVariants.{V1, V2}
use Rattle.pq_tree.specs.declared.types.DataPageHeaderV1.{DataPageHeaderV1}
use Rattle.pq_tree.specs.declared.types.DataPageHeaderV2.{DataPageHeaderV2}
use Rattle.pq_tree.specs.declared.types.Statistics.{Statistics}
use Rattle.pq_tree.specs.Views.{statistics_view}
use Rattle.pq_metadata.specs.Footer.{ChunkStatistics}
use Rattle.pq_files.specs.Written.{at_some, statistics_value}
use Rattle.pq_pages.specs.declared.page.Page.{Page}
use Rattle.pq_pages.specs.declared.page.Page.TheVariants.{Data, Dict}
use Rattle.pq_pages.specs.HeaderValue.{bounds_value, v1_value, v2_value, data_value, page_value}

-- a field that may be absent
some : {A : Type 0} (f : A → Value) (id : ℕ) (o : Option A) (fs : Fields) → ((a : A) → IsWritable (f a)) → AreFieldsWritable fs → AreFieldsWritable (at_some id (option_map f o) fs)
some f id None fs h rest = rest
some f id (Some a) fs h rest = (h a, rest)

bounds_writable : (s : ChunkStatistics) → IsWritable (statistics_value s)
bounds_writable s = some int64 3 s.null_count _ (λ z. tt) (some binary 5 s.max_value _ (λ t. tt) (some binary 6 s.min_value _ (λ t. tt) tt))

bounds : (id : ℕ) (o : Option Statistics) → AreFieldsWritable (at_some id (bounds_value o) no_fields)
bounds id None = tt
bounds id (Some s) = (bounds_writable (statistics_view s), tt)

v1_writable : (h : DataPageHeaderV1) → IsWritable (v1_value h)
v1_writable h = (tt, (tt, some int32 3 h.definition_level_encoding _ (λ z. tt) (some int32 4 h.repetition_level_encoding _ (λ z. tt) (bounds 5 h.statistics))))

v2_writable : (h : DataPageHeaderV2) → IsWritable (v2_value h)
v2_writable h = (tt, some int32 2 h.num_nulls _ (λ z. tt) (tt, (tt, (tt, (tt, some truth 7 h.is_compressed _ (λ b. tt) (bounds 8 h.statistics))))))

data_writable : (h : DataPageHeader) (size : ℕ) → IsWritable (data_value h size)
data_writable (V1 h) size = (tt, (tt, (tt, (v1_writable h, tt))))
data_writable (V2 h) size = (tt, (tt, (tt, (v2_writable h, tt))))

pub header_writable : (p : Page) → IsWritable (page_value p)
header_writable (Data p) = data_writable p.header _
header_writable (Dict p) = (tt, (tt, (tt, ((tt, (tt, (tt, tt))), tt))))

data_struct : (h : DataPageHeader) (size : ℕ) → IsStruct (data_value h size)
data_struct (V1 h) size = tt
data_struct (V2 h) size = tt

pub header_struct : (p : Page) → IsStruct (page_value p)
header_struct (Data p) = data_struct p.header _
header_struct (Dict p) = tt
