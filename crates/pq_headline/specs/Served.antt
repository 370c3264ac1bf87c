-- The types of fields that are served, which are both read and written: of the types that pages may have, dictionaries alone are not
-- served yet. Of a type that no page has (the page table has no row for it) nothing is said here.
use Rattle.std.specs.Prelude.{Bool, true, false, ◌&&◌}
use Rattle.columns_core.specs.Tree.{TypeTree, t_list, t_fixed_size_list, t_large_list, t_struct, t_union, t_map, t_dictionary, t_extension, FieldTree, field, FieldTrees, no_fields, more_fields}

abbrev mutual
  pub is_served_type : TypeTree → Bool
  is_served_type (t_list item) = is_served_field item
  is_served_type (t_large_list item) = is_served_field item
  is_served_type (t_fixed_size_list item n) = false
  is_served_type (t_map entry is_sorted) = is_served_field entry
  is_served_type (t_struct fs) = are_served_fields fs
  is_served_type (t_union fs ids is_sparse) = false
  is_served_type (t_dictionary key t is_sorted) = false
  is_served_type (t_extension name inner metadata) = is_served_type inner
  is_served_type t = true

  pub is_served_field : FieldTree → Bool
  is_served_field (field name t is_nullable metadata) = is_served_type t

  pub are_served_fields : FieldTrees → Bool
  are_served_fields no_fields = true
  are_served_fields (more_fields f fs) = is_served_field f && are_served_fields fs
