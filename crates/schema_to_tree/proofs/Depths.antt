-- The depth that is told from a type is that of its tree.
use Rattle.std.proofs.Common.{◌≡◌, ℕ, suc, ◌+◌, max, refl, arith}
use Rattle.columns_core.specs.Tree.{TypeTree, t_list, t_fixed_size_list, t_large_list, t_struct, t_map, t_dictionary, t_extension, FieldTree, field, FieldTrees, no_fields, more_fields}
use Rattle.pq_tree.specs.Types.{Info}
use Rattle.pq_tree.specs.Tree.{nesting, nesting_of}
use Rattle.schema_to_tree.specs.Depth.{tree_depth, field_tree_depth, fields_tree_depth}
use Rattle.schema_to_tree.specs.Table.{type_tree, tree_of, trees_of}

over_one : (n d : ℕ) → n ≡ d → suc (max (suc (max n 0)) 0) ≡ d + 2
over_one n d e = omega arith

mutual
  pub depth-type : (i : Info) (t : TypeTree) → nesting (type_tree i t) ≡ tree_depth t
  depth-type i (t_list f) = over_one _ _ (depth-field f)
  depth-type i (t_large_list f) = over_one _ _ (depth-field f)
  depth-type i (t_fixed_size_list f n) = over_one _ _ (depth-field f)
  depth-type i (t_map f sorted) = over_one _ _ (depth-field f)
  depth-type i (t_struct fs) = let e : nesting_of (trees_of fs) ≡ fields_tree_depth fs = depth-fields fs in omega arith
  depth-type i (t_dictionary key t sorted) = depth-type i t
  depth-type i (t_extension name t m) = depth-type i t
  depth-type i t = refl

  pub depth-field : (f : FieldTree) → nesting (tree_of f) ≡ field_tree_depth f
  depth-field (field name t nullable m) = depth-type _ t

  pub depth-fields : (fs : FieldTrees) → nesting_of (trees_of fs) ≡ fields_tree_depth fs
  depth-fields no_fields = refl
  depth-fields (more_fields f fs) = rw (depth-field f, depth-fields fs) refl
