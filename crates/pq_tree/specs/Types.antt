-- What a node of the tree says of itself (Parquet format, LogicalTypes; parquet.thrift: FieldRepetitionType, ConvertedType, LogicalType, TimeUnit).
use Rattle.std.specs.Prelude.{ℕ, ℤ, Bool, Option, List}

pub data Repetition : Type 0 where
  required optional repeated : Repetition

pub data TimeUnit : Type 0 where
  millis micros nanos : TimeUnit

-- converted types: a decimal has its precision and its scale
pub data Converted : Type 0 where
  utf8 map map_key_value list enum : Converted
  decimal : ℕ → ℕ → Converted
  date time_millis time_micros timestamp_millis timestamp_micros : Converted
  unsigned : ℕ → Converted
  signed : ℕ → Converted
  json bson interval : Converted

-- logical types: a decimal has its precision and its scale, times say whether they are adjusted, integers have their width and whether they are signed
pub data Logical : Type 0 where
  string map list enum : Logical
  decimal : ℕ → ℕ → Logical
  date : Logical
  time : Bool → TimeUnit → Logical
  timestamp : Bool → TimeUnit → Logical
  integer : ℕ → Bool → Logical
  unknown json bson uuid : Logical

pub record Info : Type 0 where
  pub name : List ℕ
  pub repetition : Repetition
  pub id : Option ℤ
  pub converted : Option Converted
  pub logical : Option Logical
