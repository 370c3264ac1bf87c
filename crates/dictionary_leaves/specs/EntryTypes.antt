-- The types of a dictionary's keys and entries, and how its entries are read.
use Rattle.columns_core.specs.Tree.{TypeTree}
use Rattle.columns_core.specs.declared.types.IntegerType.{IntegerType}
use Rattle.read_types.specs.declared.kind.LeafKind.{LeafKind}

pub record EntryReading : Type 0 where
  pub key : IntegerType
  pub data_type : TypeTree
  pub kind : LeafKind
