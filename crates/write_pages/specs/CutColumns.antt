-- Some rows of a path over its leaf array.
use Rattle.std.specs.Prelude.{◌≡◌, ℕ, List, length, take, drop}
use Rattle.shredding.specs.Parts.{Part, IsPath, path_slots, path_way}
use Rattle.columns_array.specs.Boxed.{boxed}
use Rattle.columns_slots.specs.Slots.{tree_len, type_of}
use Rattle.columns_slots.specs.Tree.{ArrayTree}
use Rattle.levels.specs.Nested.{parts_of}
use Rattle.levels.specs.Ranges.{leaf_count_or}
use Rattle.nested_paths.specs.Seen.{leaf_slot}
use Rattle.write_pages.specs.declared.cut_column.CutColumn.{CutColumn}
use Rattle.write_pages.specs.Holds.{rows_of}

-- The path is well formed, and over its leaf array stands for n of the rows from row o on, along the same way and with values of the same type.
pub record IsCutColumn (a : ArrayTree) (parts : List Part) (o n : ℕ) (c : CutColumn) : Type 0 where
  pub well : IsPath (parts_of c.nested.items)
  pub few : length c.nested.items ≡ length parts
  pub leaf : tree_len (boxed c.array) ≡ leaf_count_or 0 (parts_of c.nested.items)
  pub type : type_of (boxed c.array) ≡ type_of a
  pub way : path_way (parts_of c.nested.items) ≡ path_way parts
  pub rows : path_slots (leaf_slot (boxed c.array)) (parts_of c.nested.items) ≡ take n (drop o (rows_of parts a))
