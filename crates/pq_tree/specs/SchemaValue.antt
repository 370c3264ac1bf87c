-- What a schema descriptor stands for: the root's name, and the nodes beneath it in order.
use Rattle.std.specs.Prelude.{ℕ, List}
use Rattle.pq_tree.specs.declared.types.ParquetType.{ParquetType}

pub record SchemaValue : Type 0 where
  pub name : List ℕ
  pub fields : List ParquetType
