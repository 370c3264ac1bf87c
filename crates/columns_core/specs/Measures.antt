-- Recursive definitions over the trees.
use Rattle.std.specs.Prelude.{ℕ, ◌+◌, max}
use Rattle.columns_core.specs.Tree.{TypeTree, t_list, t_fixed_size_list, t_large_list, t_struct, t_union, t_map, t_dictionary, t_extension, FieldTree, field, FieldTrees, no_fields, more_fields}

abbrev mutual
  pub leaves : TypeTree → ℕ
  leaves (t_list x0) = field_leaves x0
  leaves (t_fixed_size_list x0 x1) = field_leaves x0
  leaves (t_large_list x0) = field_leaves x0
  leaves (t_struct x0) = fields_leaves x0
  leaves (t_union x0 x1 x2) = fields_leaves x0
  leaves (t_map x0 x1) = field_leaves x0
  leaves (t_extension x0 x1 x2) = leaves x1
  leaves _ = 1

  pub field_leaves : FieldTree → ℕ
  field_leaves (field n t b m) = leaves t

  pub fields_leaves : FieldTrees → ℕ
  fields_leaves no_fields = 0
  fields_leaves (more_fields f fs) = field_leaves f + fields_leaves fs

abbrev mutual
  pub nesting : TypeTree → ℕ
  nesting (t_list x0) = field_nesting x0 + 1
  nesting (t_fixed_size_list x0 x1) = field_nesting x0 + 1
  nesting (t_large_list x0) = field_nesting x0 + 1
  nesting (t_struct x0) = fields_nesting x0 + 1
  nesting (t_union x0 x1 x2) = fields_nesting x0 + 1
  nesting (t_map x0 x1) = field_nesting x0 + 1
  nesting (t_dictionary x0 x1 x2) = nesting x1 + 1
  nesting (t_extension x0 x1 x2) = nesting x1 + 1
  nesting _ = 1

  pub field_nesting : FieldTree → ℕ
  field_nesting (field n t b m) = nesting t

  pub fields_nesting : FieldTrees → ℕ
  fields_nesting no_fields = 0
  fields_nesting (more_fields f fs) = max (field_nesting f) (fields_nesting fs)
