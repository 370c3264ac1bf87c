-- Physical types, and their numbers in a file (Parquet format, "Types"; parquet.thrift: Type).
use Rattle.std.specs.Prelude.{ℕ}

pub data Physical : Type 0 where
  boolean int32 int64 int96 float double byte_array : Physical
  fixed : ℕ → Physical

abbrev pub number_of_physical : Physical → ℕ
number_of_physical boolean = 0
number_of_physical int32 = 1
number_of_physical int64 = 2
number_of_physical int96 = 3
number_of_physical float = 4
number_of_physical double = 5
number_of_physical byte_array = 6
number_of_physical (fixed n) = 7
