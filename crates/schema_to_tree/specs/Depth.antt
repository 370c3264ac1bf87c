-- How deep the tree of a type nests, told from the type.
use Rattle.std.specs.Prelude.{ℕ, ◌+◌, max}
use Rattle.columns_core.specs.Tree.{TypeTree, t_list, t_fixed_size_list, t_large_list, t_struct, t_map, t_dictionary, t_extension, FieldTree, field, FieldTrees, no_fields, more_fields}

abbrev mutual
  pub tree_depth : TypeTree → ℕ
  tree_depth (t_list f) = field_tree_depth f + 2
  tree_depth (t_large_list f) = field_tree_depth f + 2
  tree_depth (t_fixed_size_list f n) = field_tree_depth f + 2
  tree_depth (t_map f sorted) = field_tree_depth f + 2
  tree_depth (t_struct fs) = fields_tree_depth fs + 1
  tree_depth (t_dictionary key t sorted) = tree_depth t
  tree_depth (t_extension name t m) = tree_depth t
  tree_depth t = 1

  pub field_tree_depth : FieldTree → ℕ
  field_tree_depth (field name t nullable m) = tree_depth t

  pub fields_tree_depth : FieldTrees → ℕ
  fields_tree_depth no_fields = 0
  fields_tree_depth (more_fields f fs) = max (field_tree_depth f) (fields_tree_depth fs)
