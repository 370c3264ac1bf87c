-- The trees of schemas, as a footer tells of them (Parquet format, parquet.thrift: SchemaElement).
use Rattle.footer_write.specs.Fits.{TreesFit}
use Rattle.footer_write.specs.Reads.{AreTold}
use Rattle.columns_core.specs.Tree.{FieldTrees}
use Rattle.schema_to_tree.specs.Conditions.{AreWritten}
use Rattle.schema_to_tree.specs.Table.{trees_of}

-- No node has a field id, no leaf the fixed length 0 and no group a precision, and each number fits the field that it has.
abbrev pub WrittenTreesAreTold : Type 0
WrittenTreesAreTold = (fs : FieldTrees) → AreWritten fs → AreTold (trees_of fs) × TreesFit (trees_of fs)
