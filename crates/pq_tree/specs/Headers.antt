-- What the headers of pages say, as records (Parquet format, parquet.thrift: PageHeader, DataPageHeader, DictionaryPageHeader, DataPageHeaderV2).
use Rattle.std.specs.Prelude.{ℕ, ℤ, Option}

pub record DataHeader : Type 0 where
  pub num_values : ℕ
  pub encoding : ℤ
  pub definition_encoding : Option ℤ
  pub repetition_encoding : Option ℤ

-- of version 2
pub record DataHeader2 : Type 0 where
  pub num_values : ℕ
  pub num_rows : ℕ
  pub encoding : ℤ
  pub definition_length : ℕ
  pub repetition_length : ℕ

pub record DictionaryHeader : Type 0 where
  pub num_values : ℕ
  pub encoding : ℤ

pub data Header : Type 0 where
  data_page : DataHeader → Header
  data_page_2 : DataHeader2 → Header
  dictionary_page : DictionaryHeader → Header

-- a header, and the number of its body's bytes
pub record PageHeader : Type 0 where
  pub header : Header
  pub size : ℕ
