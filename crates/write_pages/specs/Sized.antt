-- The rows of a page, as they are found from the values of a whole column.
use Rattle.std.specs.Prelude.{◌≡◌, ℕ, ◌-◌, ◌^◌, ◌<◌, ◌≤◌, min, true, Option, Some, List, length, All}
use Rattle.shredding.specs.Cut.{cut}
use Rattle.shredding.specs.Along.{IsAlong}
use Rattle.shredding.specs.Parts.{Part, IsPath, path_slots, path_way}
use Rattle.shredding.specs.Shape.{LeafType, Way}
use Rattle.shredding.specs.Shred.{Triple, column}
use Rattle.shredding.specs.Slot.{Slot}
use Rattle.columns_core.specs.Shapes.{base, leaf_type}
use Rattle.columns_slots.specs.Slots.{child_of, tree_len, type_of}
use Rattle.columns_slots.specs.Tree.{ArrayTree}
use Rattle.levels.specs.InBounds.{IsInBounds}
use Rattle.levels.specs.Ranges.{leaf_count_or}
use Rattle.nested_paths.specs.Seen.{leaf_slot}
use Rattle.pq_tree.specs.Physical.{Physical}
use Rattle.pq_files.specs.Layout.{plain_length}
use Rattle.pq_files.specs.Page.{values_in}
use Rattle.pq_files.specs.Stored.{AreStored}
use Rattle.write_values.specs.Served.{is_served}
use Rattle.write_values.specs.Decimals.{HasWide}
use Rattle.dictionary_pages.specs.Entries.{is_entry}
use Rattle.dictionary_pages.specs.Keys.{AreRowsOf}
use Rattle.write_pages.specs.Holds.{HaveBytes, rows_of}
use Rattle.write_pages.specs.Rule.{pieces_by_rule}

-- the plain bytes of the stored values of a column, up to the largest number
pub record AreMeasured (t : LeafType) (p : Physical) (w : Way) (rows : List Slot) (plain : ℕ) : Type 0 where
  pub stored : List Triple
  pub are_stored : AreStored t p (column w rows) stored
  pub have_bytes : HaveBytes t stored
  pub bytes : plain ≡ min (plain_length p (values_in stored)) (2 ^ 128 - 1)

-- pieces of so many rows are those of the row rule
pub record IsByRule (limit : Option ℕ) (t : LeafType) (p : Physical) (w : Way) (rows : List Slot) (n : ℕ) : Type 0 where
  pub stored : List Triple
  pub are_stored : AreStored t p (column w rows) stored
  pub have_bytes : HaveBytes t stored
  pub pieces : cut rows (Some n) ≡ pieces_by_rule limit (plain_length p (values_in stored)) rows

-- the pages of such a column can be written
pub record IsReady (a : ArrayTree) (parts : List Part) (p : Physical) (per_page : ℕ) : Type 0 where
  pub in_bounds : IsInBounds parts
  pub few : length parts ≤ 128
  pub leaf : tree_len a ≡ leaf_count_or 0 parts
  pub reached : All (IsAlong (path_way parts)) (rows_of parts a)
  pub served : is_served (base (type_of a)) p ≡ true
  pub held : ¬ HasWide (leaf_type (type_of a)) p (column (path_way parts) (rows_of parts a))
  pub some : 0 < per_page

-- those of a dictionary's column, of which this are all rows
pub record IsKeyedReady (a : ArrayTree) (parts : List Part) (p : Physical) : Type 0 where
  pub well : IsPath parts
  pub few : length parts ≤ 128
  pub leaf : tree_len a ≡ leaf_count_or 0 parts
  pub rows : AreRowsOf (leaf_type (type_of a)) (path_way parts) (path_slots (leaf_slot a) parts)
  pub entries : is_entry (base (type_of (child_of a))) p ≡ true
