-- The fields that are read, each with the leaves of a file.
use Rattle.std.specs.Prelude.{◌≡◌, Bool, true, false, ◌&&◌, List}
use Rattle.std.specs.List.{AllZip}
use Rattle.columns_core.specs.Shapes.{base}
use Rattle.columns_core.specs.Tree.{TypeTree, t_list, t_fixed_size_list, t_large_list, t_struct, t_union, t_map, t_dictionary, t_extension, FieldTree, field, FieldTrees, no_fields, more_fields}
use Rattle.pq_headline.specs.Columns.{ArrowColumn, field_columns, has_no_parts}
use Rattle.pq_tree.specs.Tree.{Leaf}
use Rattle.read_types.specs.LeafTypes.{is_read}

-- Whether all nodes of a type are read, whatever its leaves: lists of fixed size and unions are not read yet, and no entries with parts.
abbrev mutual
  pub reads_nodes : TypeTree → Bool
  reads_nodes (t_list item) = reads_nodes_of item
  reads_nodes (t_large_list item) = reads_nodes_of item
  reads_nodes (t_fixed_size_list item n) = false
  reads_nodes (t_map entry is_sorted) = reads_nodes_of entry
  reads_nodes (t_struct fs) = reads_nodes_of_all fs
  reads_nodes (t_union fs ids is_sparse) = false
  reads_nodes (t_dictionary key t is_sorted) = has_no_parts (base t)
  reads_nodes (t_extension name inner metadata) = reads_nodes inner
  reads_nodes t = true

  pub reads_nodes_of : FieldTree → Bool
  reads_nodes_of (field name t is_nullable metadata) = reads_nodes t

  pub reads_nodes_of_all : FieldTrees → Bool
  reads_nodes_of_all no_fields = true
  reads_nodes_of_all (more_fields f fs) = reads_nodes_of f && reads_nodes_of_all fs

-- the type of the values that a leaf stores: of a dictionary that of its entries
abbrev pub value_type : TypeTree → TypeTree
value_type (t_dictionary key t is_sorted) = base t
value_type t = t

abbrev pub IsLeafRead : ArrowColumn → Leaf → Type 0
IsLeafRead c l = is_read (value_type c.data_type) l.physical ≡ true

-- Its nodes are read, and each leaf under its physical type.
pub record IsRead (f : FieldTree) (ls : List Leaf) : Type 0 where
  pub nodes : reads_nodes_of f ≡ true
  pub leaves : AllZip IsLeafRead (field_columns f) ls
