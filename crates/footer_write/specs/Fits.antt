-- What the 32-bit fields of a footer hold (Parquet format, parquet.thrift: SchemaElement, DecimalType; "File format": footer length).
use Rattle.std.specs.Prelude.{ℕ, ◌<◌, ◌≤◌, ◌^◌, Option, Some}
use Rattle.pq_tree.specs.Physical.{Physical}
use Rattle.pq_tree.specs.Tree.{Tree, leaf, group, Trees, no_trees, tree}
use Rattle.pq_tree.specs.Types.{Converted, Logical}
use Rattle.pq_files.specs.FooterRecord.{FileMetaData}
use Rattle.pq_files.specs.Room.{footer_room, max_size}

-- a number of 32 bits that is not negative
abbrev pub IsSmall : ℕ → Type 0
IsSmall n = n < 2 ^ 31

abbrev pub ConvertedFits : Option Converted → Type 0
ConvertedFits (Some (Converted.decimal precision scale)) = IsSmall precision × IsSmall scale
ConvertedFits _ = Unit {0}

abbrev pub LogicalFits : Option Logical → Type 0
LogicalFits (Some (Logical.decimal precision scale)) = IsSmall precision × IsSmall scale
LogicalFits _ = Unit {0}

abbrev pub PhysicalFits : Physical → Type 0
PhysicalFits (Physical.fixed n) = IsSmall n
PhysicalFits _ = Unit {0}

-- Each number of a node that has a field: the fixed length and the precision and scale of a leaf, and those of a logical type. A group has no fields for the precision and scale of its converted type.
abbrev mutual
  pub TreeFits : Tree → Type 0
  TreeFits (leaf info p) = ConvertedFits info.converted × LogicalFits info.logical × PhysicalFits p
  TreeFits (group info ts) = LogicalFits info.logical × TreesFit ts

  pub TreesFit : Trees → Type 0
  TreesFit no_trees = Unit {0}
  TreesFit (tree t ts) = TreeFits t × TreesFit ts

-- the room of the footer, and each number of its schema
pub record FooterFits (m : FileMetaData) : Type 0 where
  pub room : footer_room m ≤ max_size
  pub numbers : TreesFit m.schema.fields
