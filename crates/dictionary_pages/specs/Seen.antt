-- The path whose nulls are those that are seen in a dictionary: those of its masks, and the keys of null entries (Arrow columnar format,
-- "Dictionary-encoded Layout").
use Rattle.std.specs.Prelude.{◌≡◌, ◌<◌, ℕ, Bool, true, false, ◌&&◌, Some, List, [], length, map, All}
use Rattle.shredding.specs.Parts.{Part, leaf_part, list_part, struct_part, IsPath, MaskFits, keeps, path_slots, path_way}
use Rattle.shredding.specs.Slot.{value}
use Rattle.columns_slots.specs.Slots.{tree_len}
use Rattle.columns_slots.specs.Tree.{Mask, ArrayTree}
use Rattle.levels.specs.Ranges.{leaf_count_or}
use Rattle.nested_paths.specs.LeafNulls.{is_value, value_at}
use Rattle.nested_paths.specs.Seen.{leaf_slot}
use Rattle.write_places.specs.Places.{path_places, range}
use Rattle.dictionary_pages.specs.Taken.{all-none}

-- the positions that a mask keeps and at which the array has a value
abbrev pub seen_at : ArrayTree → Mask → ℕ → Bool
seen_at a m i = keeps m i && is_value (leaf_slot a i)

abbrev pub seen_bits : ArrayTree → Mask → List Bool
seen_bits a m = map (seen_at a m) (range 0 (tree_len a))

-- the part with another mask, if it is a leaf
abbrev pub with_mask : (Mask → Mask) → Part → Part
with_mask k (leaf_part is_optional mask count) = leaf_part is_optional (k mask) count
with_mask k (list_part is_optional mask offsets) = list_part is_optional mask offsets
with_mask k (struct_part is_optional mask count) = struct_part is_optional mask count

-- the path with the positions that are seen in the mask of its leaf
abbrev pub seen_mask : ArrayTree → Mask → Mask
seen_mask a m = Some (seen_bits a m)

abbrev pub seen_parts : ArrayTree → List Part → List Part
seen_parts a parts = map (with_mask (seen_mask a)) parts

-- a leaf has the array's positions, and a mask as long as it
abbrev pub FitsPart : ArrayTree → Part → Type 0
FitsPart a (leaf_part is_optional mask count) = MaskFits mask (tree_len a)
FitsPart a (list_part is_optional mask offsets) = Unit {0}
FitsPart a (struct_part is_optional mask count) = Unit {0}

-- The new path stands for the same slots, all its nulls being those of its masks, and reaches values alone.
pub record IsSeenPath (a : ArrayTree) (old new : List Part) : Type 0 where
  pub well : IsPath new
  pub few : length new ≡ length old
  pub way : path_way new ≡ path_way old
  pub leaf : leaf_count_or 0 new ≡ leaf_count_or 0 old
  pub slots : path_slots (λ i. value (value_at a i)) new ≡ path_slots (leaf_slot a) old
  pub reached : All (λ i. i < tree_len a) (path_places new)
  pub values : All (λ i. is_value (leaf_slot a i) ≡ true) (path_places new)

-- From one state to the other it was looked whether one of these places has no value.
pub record Looks (a : ArrayTree) (places : List ℕ) (old new : Bool) : Type 0 where
  pub within : All (λ i. i < tree_len a) places
  pub values : new ≡ false → (old ≡ false) × All (λ i. is_value (leaf_slot a i) ≡ true) places

pub looks-none : (a : ArrayTree) (b : Bool) → Looks a [] b b
looks-none a b = record { within = all-none _; values = λ e. (e, all-none _) }
