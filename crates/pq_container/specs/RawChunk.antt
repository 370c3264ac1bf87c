-- Parts of a column's metadata, as the reader takes them.
use Rattle.std.specs.Prelude.{◌≡◌, ℕ, ℤ, List, Option, Some, None, IfSome, IsUtf8}
use Rattle.pq_thrift.specs.Value.{int32, int64, binary, struct, Fields}
use Rattle.pq_container.specs.declared.chunks.ColumnNumbers.{ColumnNumbers}
use Rattle.pq_metadata.specs.Footer.{AreAll}
use Rattle.pq_metadata.specs.Ids.{get, Holds}

-- the metadata but for its statistics
pub record HasNumbers (fs : Fields) (c : ColumnNumbers) : Type 0 where
  pub physical : get 1 fs ≡ Some (int32 c.physical_type)
  pub encodings : AreAll int32 (get 2 fs)
  pub path : AreAll binary (get 3 fs)
  pub codec : get 4 fs ≡ Some (int32 c.codec)
  pub num_values : get 5 fs ≡ Some (int64 c.num_values)
  pub uncompressed : (z : Option ℤ) × Holds int64 6 fs z
  pub size : get 7 fs ≡ Some (int64 c.total_compressed_size)
  pub data_page : get 9 fs ≡ Some (int64 c.data_page_offset)
  pub dictionary_page : Holds int64 11 fs c.dictionary_page_offset

-- the file's path and the metadata, of a column that is not encrypted
pub record HasPlace (fs : Fields) (p : Option (List ℕ) × Fields) : Type 0 where
  pub file_path : Holds binary 1 fs p.0
  pub text : IfSome p.0 IsUtf8
  pub offset : (z : Option ℤ) × Holds int64 2 fs z
  pub has_metadata : get 3 fs ≡ Some (struct p.1)
  pub plain_keys : get 8 fs ≡ None
  pub plain_metadata : get 9 fs ≡ None
