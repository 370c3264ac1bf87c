-- The leaf of a path and its array.
use Rattle.std.specs.Prelude.{◌≡◌, Bool, List, not, ◌&&◌}
use Rattle.columns_core.specs.Shapes.{base}
use Rattle.columns_slots.specs.Slots.{type_of}
use Rattle.columns_slots.specs.Tree.{ArrayTree}
use Rattle.columns_slots.specs.Types.{is_null_type}
use Rattle.leaf_pages.specs.Columns.{is_in_pages}
use Rattle.levels.specs.Ranges.{leaf_count_or}
use Rattle.nested_paths.specs.Nodes.{is_optional}
use Rattle.nested_paths.specs.PathLeaf.{FitsLeaf, is_leaf_optional, leaf_mask}
use Rattle.pq_tree.specs.Physical.{Physical}
use Rattle.pq_tree.specs.Tree.{Tree}
use Rattle.shredding.specs.Parts.{Part}
use Rattle.write_values.specs.Served.{is_served}

-- the second path has the leaf of the first
pub record HasSameLeaf (parts leaf : List Part) : Type 0 where
  pub count : leaf_count_or 0 leaf ≡ leaf_count_or 0 parts
  pub optional : is_leaf_optional leaf ≡ is_leaf_optional parts
  pub mask : leaf_mask leaf ≡ leaf_mask parts

-- the array is one of the path's leaf, and the node is optional as the leaf is
abbrev pub FitsPath : ArrayTree → Tree → List Part → Type 0
FitsPath a node parts = (is_optional node ≡ is_leaf_optional parts) × FitsLeaf a parts

-- pages have values of the array's type, no nulls alone, under the physical type
abbrev pub are_values : ArrayTree → Physical → Bool
are_values a p = not (is_null_type (base (type_of a))) && (is_in_pages a && is_served (base (type_of a)) p)
