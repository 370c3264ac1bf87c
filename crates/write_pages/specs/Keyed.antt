-- The column of a dictionary, with all its rows.
use Rattle.std.specs.Prelude.{◌≡◌, true, List, length}
use Rattle.shredding.specs.Parts.{Part, IsPath, path_slots, path_way}
use Rattle.columns_core.specs.Shapes.{base}
use Rattle.columns_slots.specs.Slots.{child_of, tree_len, type_of}
use Rattle.columns_slots.specs.Tree.{ArrayTree}
use Rattle.levels.specs.InBounds.{IsInBounds}
use Rattle.levels.specs.Nested.{parts_of}
use Rattle.levels.specs.Ranges.{leaf_count_or}
use Rattle.nested_paths.specs.Nodes.{is_optional}
use Rattle.nested_paths.specs.PathLeaf.{is_leaf_optional, FitsLeaf}
use Rattle.nested_paths.specs.Seen.{leaf_slot}
use Rattle.pq_tree.specs.Physical.{Physical}
use Rattle.pq_tree.specs.Tree.{Tree}
use Rattle.dictionary_pages.specs.Entries.{is_entry}
use Rattle.write_pages.specs.declared.keyed_column.KeyedColumn.{KeyedColumn}
use Rattle.write_pages.specs.Fits.{whole_array, whole_path}
use Rattle.write_pages.specs.Holds.{rows_of}

-- The path is in bounds, and the path and the type fit a dictionary, whatever its keys.
pub record FitsKeys (parts : List Part) (leaf : Tree) (p : Physical) (a : ArrayTree) : Type 0 where
  pub in_bounds : IsInBounds parts
  pub array : FitsLeaf a parts
  pub optional : is_optional leaf ≡ is_leaf_optional parts
  pub entries : is_entry (base (type_of (child_of a))) p ≡ true

-- The path in bounds and its dictionary, with all their rows.
pub record IsWhole (a : ArrayTree) (parts : List Part) (c : KeyedColumn) : Type 0 where
  pub well : IsPath (parts_of c.nested.items)
  pub few : length c.nested.items ≡ length parts
  pub leaf : tree_len c.array ≡ leaf_count_or 0 (parts_of c.nested.items)
  pub tree : c.array ≡ whole_array parts a
  pub path : parts_of c.nested.items ≡ whole_path parts
  pub way : path_way (parts_of c.nested.items) ≡ path_way parts
  pub rows : path_slots (leaf_slot c.array) (parts_of c.nested.items) ≡ rows_of parts a
