-- The Thrift value of a page's header (Parquet format, parquet.thrift: PageHeader, DataPageHeader, DataPageHeaderV2, DictionaryPageHeader): exactly these ids, each once and ascending.
use Rattle.std.specs.Prelude.{◌≡◌, ◌⊎◌, ◌<◌, ℕ, Bool, List, ◌++◌, length, Option, option_map}
use Rattle.pq_thrift.specs.Spelling.{spell}
use Rattle.pq_thrift.specs.Value.{Value, truth, int32, struct, no_fields}
use Rattle.pq_thrift.specs.Written.{IsWritten}
use Rattle.pq_tree.specs.declared.types.DataPageHeader.{DataPageHeader}
use Rattle.pq_tree.specs.declared.types.DataPageHeader.TheVariants.{V1, V2}
use Rattle.pq_tree.specs.declared.types.DataPageHeaderV1.{DataPageHeaderV1}
use Rattle.pq_tree.specs.declared.types.DataPageHeaderV2.{DataPageHeaderV2}
use Rattle.pq_tree.specs.declared.types.Statistics.{Statistics}
use Rattle.pq_tree.specs.Views.{statistics_view}
use Rattle.pq_files.specs.Room.{max_size}
use Rattle.pq_files.specs.Written.{at, at_some, i32, statistics_value}
use Rattle.pq_pages.specs.declared.page.Page.{Page}
use Rattle.pq_pages.specs.declared.page.Page.TheVariants.{Data, Dict}

-- statistics, where there are some
abbrev pub bounds_value : Option Statistics → Option Value
bounds_value s = option_map statistics_value (option_map statistics_view s)

abbrev pub v1_value : DataPageHeaderV1 → Value
v1_value h =
    struct
    (at 1 (int32 h.num_values)
    (at 2 (int32 h.encoding)
    (at_some 3 (option_map int32 h.definition_level_encoding) (at_some 4 (option_map int32 h.repetition_level_encoding) (at_some 5 (bounds_value h.statistics) no_fields)))))

abbrev pub v2_value : DataPageHeaderV2 → Value
v2_value h =
    struct
    (at 1 (int32 h.num_values)
    (at_some 2 (option_map int32 h.num_nulls)
    (at 3 (int32 h.num_rows)
    (at 4 (int32 h.encoding)
    (at 5 (int32 h.definition_levels_byte_length)
    (at 6 (int32 h.repetition_levels_byte_length) (at_some 7 (option_map truth h.is_compressed) (at_some 8 (bounds_value h.statistics) no_fields))))))))

-- the header of a data page in front of a body of so many bytes, which is not compressed
abbrev pub data_value : DataPageHeader → ℕ → Value
data_value (V1 h) size = struct (at 1 (i32 0) (at 2 (i32 size) (at 3 (i32 size) (at 5 (v1_value h) no_fields))))
data_value (V2 h) size = struct (at 1 (i32 3) (at 2 (i32 size) (at 3 (i32 size) (at 8 (v2_value h) no_fields))))

-- of a dictionary page of so many entries, plain, in front of so many bytes
abbrev pub dict_value : ℕ → Bool → ℕ → Value
dict_value n is_sorted size = struct (at 1 (i32 2) (at 2 (i32 size) (at 3 (i32 size) (at 7 (struct (at 1 (i32 n) (at 2 (i32 0) (at 3 (truth is_sorted) no_fields)))) no_fields))))

-- ---- of a page in memory

abbrev pub body_of : Page → List ℕ
body_of (Data p) = p.buffer
body_of (Dict p) = p.buffer.items

abbrev pub page_value : Page → Value
page_value (Data p) = data_value p.header (length p.buffer)
page_value (Dict p) = dict_value p.num_values p.is_sorted (length p.buffer.items)

-- the body's length, or the number of entries, passes the header's fields of 32 bits
abbrev pub IsTooLong : Page → Type 0
IsTooLong (Data p) = max_size < length p.buffer
IsTooLong (Dict p) = (max_size < p.num_values) ⊎ (max_size < length p.buffer.items)

-- the page as it stands in a file: its header as it is written, and its body
unfoldable pub page_text : Page → List ℕ
page_text p = spell (page_value p) ++ body_of p

-- What is appended is the page's header as it is written.
pub record AppendsHeader (p : Page) (before after : List ℕ) : Type 0 where
  pub text : List ℕ
  pub parts : after ≡ before ++ text
  pub is : IsWritten text (page_value p)
