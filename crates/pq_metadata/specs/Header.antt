-- A page's header, as a Thrift struct (Parquet format, parquet.thrift: PageHeader, DataPageHeader, DictionaryPageHeader, DataPageHeaderV2).
use Rattle.std.specs.Prelude.{◌≡◌, ℤ, pos, Option, Some}
use Rattle.pq_thrift.specs.Value.{Value, int32, struct, Fields}
pub use Rattle.pq_tree.specs.Headers.{DataHeader, DataHeader2, DictionaryHeader, Header, data_page, data_page_2, dictionary_page, PageHeader}
use Rattle.pq_metadata.specs.Ids.{get, Holds}

pub record HasDataHeader (fs : Fields) (h : DataHeader) : Type 0 where
  pub num_values : get 1 fs ≡ Some (int32 (pos h.num_values))
  pub encoding : get 2 fs ≡ Some (int32 h.encoding)
  pub definition_encoding : Holds int32 3 fs h.definition_encoding
  pub repetition_encoding : Holds int32 4 fs h.repetition_encoding

pub record HasDataHeader2 (fs : Fields) (h : DataHeader2) : Type 0 where
  pub num_values : get 1 fs ≡ Some (int32 (pos h.num_values))
  pub num_nulls : (z : Option ℤ) × Holds int32 2 fs z
  pub num_rows : get 3 fs ≡ Some (int32 (pos h.num_rows))
  pub encoding : get 4 fs ≡ Some (int32 h.encoding)
  pub definition_length : get 5 fs ≡ Some (int32 (pos h.definition_length))
  pub repetition_length : get 6 fs ≡ Some (int32 (pos h.repetition_length))

pub record HasDictionaryHeader (fs : Fields) (h : DictionaryHeader) : Type 0 where
  pub num_values : get 1 fs ≡ Some (int32 (pos h.num_values))
  pub encoding : get 2 fs ≡ Some (int32 h.encoding)

-- the page's type, and the struct of that type
abbrev pub HasHeader : Fields → Header → Type 0
HasHeader fs (data_page h) = (get 1 fs ≡ Some (int32 (pos 0))) × (inner : Fields) × (get 5 fs ≡ Some (struct inner)) × HasDataHeader inner h
HasHeader fs (dictionary_page h) = (get 1 fs ≡ Some (int32 (pos 2))) × (inner : Fields) × (get 7 fs ≡ Some (struct inner)) × HasDictionaryHeader inner h
HasHeader fs (data_page_2 h) = (get 1 fs ≡ Some (int32 (pos 3))) × (inner : Fields) × (get 8 fs ≡ Some (struct inner)) × HasDataHeader2 inner h

pub record HasPageHeader (fs : Fields) (h : PageHeader) : Type 0 where
  pub header : HasHeader fs h.header
  pub uncompressed : (z : Option ℤ) × Holds int32 2 fs z
  pub size : get 3 fs ≡ Some (int32 (pos h.size))

abbrev pub SpellsHeader : Value → PageHeader → Type 0
SpellsHeader (struct fs) h = HasPageHeader fs h
SpellsHeader v h = ⊥
