-- The reader of a column, by its type.
use Rattle.std.proofs.Common.{inl, inr}
use Rattle.read_columns.specs.Columns.{ColumnReading}
use Rattle.read_columns.specs.declared.column.Reader.{Reader}
use Rattle.read_columns.specs.declared.column.Reader.TheVariants as R

abbrev pub reading_in : {I : Type 0} → Reader I → ColumnReading
reading_in (R.Leaf r) = inl r
reading_in (R.Dictionary r) = inr r.value
