-- The fields of the sample.
use Rattle.std.specs.Prelude.{codes, true, false, []}
use Rattle.columns_core.specs.Tree.{TypeTree, t_int32, t_int64, t_utf8, t_list, FieldTree, field, FieldTrees, no_fields, more_fields}
use Rattle.columns_core.specs.View.{SchemaTree}

abbrev pub id_field : FieldTree
id_field = field (codes "id") t_int64 false []

abbrev pub tag_field : FieldTree
tag_field = field (codes "tag") t_utf8 true []

abbrev pub item_field : FieldTree
item_field = field (codes "item") t_int32 true []

abbrev pub items_type : TypeTree
items_type = t_list item_field

abbrev pub items_field : FieldTree
items_field = field (codes "items") items_type true []

abbrev pub sample_fields : FieldTrees
sample_fields = more_fields id_field (more_fields tag_field (more_fields items_field no_fields))

abbrev pub sample_tree : SchemaTree
sample_tree = record { fields = sample_fields; metadata = [] }
