-- The page header that stands in front of bytes, read from left to right (Parquet format, parquet.thrift: PageHeader). `IsHeaderText` says what a header is; this is the way to it.
use Rattle.std.specs.Prelude.{◌≡◌, ◌⊎◌, ℕ, ℤ, pos, ◌-◌, List, length, Bool, cond, ◌||◌, Option, Some, None, Result, Ok, Err}
use Rattle.columns_base.specs.declared.error.Error.{Error}
use Rattle.columns_base.specs.declared.error.Error.TheVariants.{Memory, OutOfSpec, NotYetImplemented}
use Rattle.columns_base.specs.declared.error.S.TheVariants.{S3}
use Rattle.columns_base.specs.declared.error.N.TheVariants.{N4}
use Rattle.pq_thrift.specs.declared.fault.Fault.{Fault}
use Rattle.pq_thrift.specs.Reading.{thrift_at}
use Rattle.pq_thrift.specs.Value.{Value, int32, struct, Fields}
use Rattle.pq_tree.specs.declared.types.PageHeader.{PageHeader as RustPageHeader}
use Rattle.pq_tree.specs.Views.{page_header_view}
use Rattle.pq_metadata.specs.Header.{DataHeader, DataHeader2, DictionaryHeader, Header, data_page, data_page_2, dictionary_page, PageHeader}
use Rattle.pq_metadata.specs.Ids.{get, is_number}
use Rattle.pq_metadata.specs.Kinds.{int32_in, struct_in}

-- ---- fields

infixl 10 ◌>>=◌
abbrev pub ◌>>=◌ : {A B : Type 0} → Option A → (A → Option B) → Option B
(Some x) >>= f = f x
None >>= f = None

abbrev pub natural_in : Value → Option ℕ
natural_in (int32 (pos n)) = Some n
natural_in v = None

-- a field that has to stand
abbrev pub needed : {A : Type 0} → (Value → Option A) → ℕ → Fields → Option A
needed part id fs = get id fs >>= part

-- one that may be absent
abbrev pub if_there : {A : Type 0} → (Value → Option A) → Option Value → Option (Option A)
if_there part None = Some None
if_there part (Some v) = part v >>= λ a. Some (Some a)

abbrev pub optional : {A : Type 0} → (Value → Option A) → ℕ → Fields → Option (Option A)
optional part id fs = if_there part (get id fs)

-- ---- headers

unfoldable pub data_header_of : Fields → Option DataHeader
data_header_of fs = do
  n ← needed natural_in 1 fs
  e ← needed int32_in 2 fs
  d ← optional int32_in 3 fs
  r ← optional int32_in 4 fs
  Some (record { num_values = n; encoding = e; definition_encoding = d; repetition_encoding = r })

unfoldable pub data_header_2_of : Fields → Option DataHeader2
data_header_2_of fs = do
  n ← needed natural_in 1 fs
  nulls ← optional int32_in 2 fs
  rows ← needed natural_in 3 fs
  e ← needed int32_in 4 fs
  d ← needed natural_in 5 fs
  r ← needed natural_in 6 fs
  Some (record { num_values = n; num_rows = rows; encoding = e; definition_length = d; repetition_length = r })

unfoldable pub dictionary_header_of : Fields → Option DictionaryHeader
dictionary_header_of fs = do
  n ← needed natural_in 1 fs
  e ← needed int32_in 2 fs
  Some (record { num_values = n; encoding = e })

-- the struct of the page's type
abbrev pub header_of_type : ℤ → Fields → Option Header
header_of_type t fs =
    cond (is_number t 0) (needed struct_in 5 fs >>= λ inner. data_header_of inner >>= λ h. Some (data_page h))
    (cond (is_number t 2) (needed struct_in 7 fs >>= λ inner. dictionary_header_of inner >>= λ h. Some (dictionary_page h))
    (cond (is_number t 3) (needed struct_in 8 fs >>= λ inner. data_header_2_of inner >>= λ h. Some (data_page_2 h)) None))

unfoldable pub page_header_of : Value → Option PageHeader
page_header_of (struct fs) = do
  t ← needed int32_in 1 fs
  h ← header_of_type t fs
  z ← optional int32_in 2 fs
  n ← needed natural_in 3 fs
  Some (record { header = h; size = n })
page_header_of v = None

-- why a struct is no header of a page that is read: N4 for an index page and for a type that isn't known
abbrev pub is_known_type : ℤ → Bool
is_known_type t = is_number t 0 || is_number t 2 || is_number t 3

abbrev pub type_reason : ℤ → Error
type_reason t = cond (is_known_type t) (OutOfSpec S3) (NotYetImplemented N4)

abbrev pub known_reason : Option ℤ → Error
known_reason None = OutOfSpec S3
known_reason (Some t) = type_reason t

abbrev pub value_reason : Value → Error
value_reason (struct fs) = known_reason (needed int32_in 1 fs)
value_reason v = OutOfSpec S3

-- ---- in bytes

abbrev pub or_reason : Value → ℕ → Option PageHeader → Result (PageHeader × ℕ) Error
or_reason v size (Some h) = Ok (h, size)
or_reason v size None = Err (value_reason v)

abbrev pub header_from : ℕ → Result (Value × List ℕ) Fault → Result (PageHeader × ℕ) Error
header_from size (Ok read) = or_reason read.0 (size - length read.1) (page_header_of read.0)
header_from size (Err fault) = Err (OutOfSpec S3)

-- the header and the number of its bytes, or why there is none
unfoldable pub header_at : List ℕ → Result (PageHeader × ℕ) Error
header_at bytes = header_from (length bytes) (thrift_at bytes)

-- what a call that reads a header answers of it; want of memory is free
abbrev pub HeaderReads : Result (RustPageHeader × ℕ) Error → Result (PageHeader × ℕ) Error → Type 0
HeaderReads (Ok x) read = read ≡ Ok (page_header_view x.0, x.1)
HeaderReads (Err e) read = (e ≡ Memory) ⊎ (read ≡ Err e)
