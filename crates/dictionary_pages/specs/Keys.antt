-- The keys that a path reaches in a dictionary (Arrow columnar format, "Dictionary-encoded Layout").
use Rattle.std.specs.Prelude.{◌≡◌, ◌<◌, ℕ, pos, Bool, false, List, All, slice_index_or}
use Rattle.shredding.specs.Along.{IsAlong}
use Rattle.shredding.specs.Parts.{Part}
use Rattle.shredding.specs.Shape.{LeafType, IsInRange, Way}
use Rattle.shredding.specs.Shred.{column}
use Rattle.shredding.specs.Slot.{Slot}
use Rattle.columns_core.specs.Rising.{IsWhole}
use Rattle.columns_slots.specs.Slots.{child_of, entry_at, is_null, keys_in, slot_at, tree_len}
use Rattle.columns_slots.specs.Tree.{ArrayTree}
use Rattle.nested_paths.specs.PathLeaf.{is_leaf_optional}
use Rattle.pq_files.specs.Page.{values_in}
use Rattle.write_places.specs.Places.{path_places}

-- The key at a position numbers an entry, one that is not null where the leaf is required.
abbrev pub IsKeyed : Bool → ArrayTree → ℕ → Type 0
IsKeyed is_optional a i = IsWhole (slice_index_or (keys_in a) i (pos 0)) × (entry_at (keys_in a) i < tree_len (child_of a)) × (is_optional ≡ false → is_null (slot_at (child_of a) (entry_at (keys_in a) i)) ≡ false)

-- so does each key that the path reaches
abbrev pub AreKeyed : ArrayTree → List Part → Type 0
AreKeyed a parts = All (IsKeyed (is_leaf_optional parts) a) (path_places parts)

-- Rows along a way whose leaf has this type: null only where that is allowed, and each value one of the type.
pub record AreRowsOf (t : LeafType) (w : Way) (rows : List Slot) : Type 0 where
  pub along : All (IsAlong w) rows
  pub in_range : All (IsInRange t) (values_in (column w rows))
