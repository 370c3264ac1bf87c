-- Whether an Arrow field and a tree are of one column.
use Rattle.std.specs.Prelude.{Bool}
use Rattle.columns_core.specs.Shapes.{base}
use Rattle.columns_core.specs.Tree.{TypeTree, t_list, t_large_list, t_struct, t_map, FieldTree, field}
use Rattle.pq_tree.specs.Tree.{Tree}
use Rattle.schema_fit.specs.declared.page_table.Asked.{Asked}
use Rattle.schema_fit.specs.declared.page_table.Asked.TheVariants as A
use Rattle.schema_fit.specs.PageTable.{go_together}
use Rattle.schema_fit.specs.Skeleton.{field_bones, tree_bones, same_bones}

-- a column is flat where its own type is that of a leaf
abbrev pub asked_of : TypeTree → Asked
asked_of (t_list item) = A.Nested
asked_of (t_large_list item) = A.Nested
asked_of (t_map entry is_sorted) = A.Nested
asked_of (t_struct fs) = A.Nested
asked_of t = A.Flat

abbrev pub compared : Asked → FieldTree → Tree → Bool
compared asked f t = same_bones (go_together asked) (field_bones f) (tree_bones t)

-- The skeletons are the same, and each leaf that has a row is stored as its row allows, in its unit.
abbrev pub agrees_with : FieldTree → Tree → Bool
agrees_with f t = compared A.Agreement f t

-- They agree, and each leaf has a row that allows its nesting.
abbrev pub fits_to : FieldTree → Tree → Bool
fits_to (field name t is_nullable metadata) tree = compared (asked_of (base t)) (field name t is_nullable metadata) tree
