-- What stands behind the pages of a file (Parquet format, "File format").
use Rattle.std.specs.Prelude.{◌≡◌, ℕ, ◌<◌, ◌^◌, List, ◌++◌, length}
use Rattle.pq_metadata.specs.Frame.{magic}
use Rattle.pq_files.specs.FooterRecord.{FileMetaData}
use Rattle.pq_files.specs.Written.{footer_value}
use Rattle.pq_numbers.specs.Texts.{number_of}
use Rattle.pq_thrift.specs.Written.{IsWritten}

-- the footer, the four bytes of its length, and PAR1
pub record IsFoot (m : FileMetaData) (bytes : List ℕ) : Type 0 where
  pub footer : List ℕ
  pub size : List ℕ
  pub is : IsWritten footer (footer_value m)
  pub four : length size ≡ 4
  pub is_size : number_of size ≡ length footer
  pub parts : bytes ≡ footer ++ (size ++ magic)
  pub short : length footer < 2 ^ 32
