-- The trees that the Rust nodes of a schema stand for.
use Rattle.std.specs.Prelude.{List, [], ◌∷◌, map as list_map, Option, Some, None, option_map, string_bytes, Vec}
use Rattle.std.specs.Global.{Global}
use Rattle.pq_tree.specs.declared.types.ConvertedType.{ConvertedType}
use Rattle.pq_tree.specs.declared.types.LogicalType.{LogicalType}
use Rattle.pq_tree.specs.declared.types.FieldInfo.{FieldInfo}
use Rattle.pq_tree.specs.declared.types.ParquetType.{ParquetType, fold-ParquetType}
use Rattle.pq_tree.specs.declared.types.ParquetType.TheOpen.{ParquetType-F}
use Rattle.pq_tree.specs.declared.types.PrimitiveType.{PrimitiveType}
use Rattle.pq_tree.specs.declared.types.FileMetaData.{FileMetaData}
use Rattle.pq_tree.specs.declared.types.KeyValue.{KeyValue}
use Rattle.pq_tree.specs.declared.schema.SchemaDescriptor.{SchemaDescriptor}
use Rattle.pq_tree.specs.Footers.{Key, Footer}
use Rattle.pq_tree.specs.Tree.{Schema, Tree, leaf, group, Trees, no_trees, tree}
use Rattle.pq_tree.specs.Types.{Info}
use Rattle.pq_tree.specs.Views.{repetition_view, physical_view, converted_view, logical_view, group_view, key_view}

abbrev pub info_view : FieldInfo → Option ConvertedType → Option LogicalType → Info
info_view f converted_type logical_type =
    record {
      name = string_bytes f.name;
      repetition = repetition_view f.repetition;
      id = f.id;
      converted = option_map converted_view converted_type;
      logical = option_map logical_view logical_type;
    }

abbrev pub trees_of : List Tree → Trees
trees_of [] = no_trees
trees_of (t ∷ ts) = tree t (trees_of ts)

abbrev pub leaf_view : PrimitiveType → Tree
leaf_view p = leaf (info_view p.field_info p.converted_type p.logical_type) (physical_view p.physical_type)

-- one level, with each node inside already seen as its tree
abbrev pub tree_step : ParquetType-F Tree → Tree
tree_step (ParquetType-F.PrimitiveType p) = leaf_view p
tree_step (ParquetType-F.GroupType field_info logical_type converted_type fields) = group (info_view field_info converted_type logical_type) (trees_of fields.items)

abbrev pub tree_view : ParquetType → Tree
tree_view = fold-ParquetType Tree tree_step

abbrev pub trees_view : List ParquetType → Trees
trees_view ts = trees_of (list_map tree_view ts)

abbrev pub schema_view : SchemaDescriptor → Schema
schema_view s = record { name = s.name; fields = trees_view s.fields }

-- no list counts as one without elements
abbrev pub pairs_view : Option (Vec KeyValue Global) → List Key
pairs_view None = []
pairs_view (Some keys) = list_map key_view keys.items

abbrev pub metadata_view : FileMetaData → Footer
metadata_view m = record { schema = schema_view m.schema_descr; groups = list_map group_view m.row_groups.items; keys = pairs_view m.key_value_metadata }
