-- Paths over arrays of nulls alone (Arrow columnar format, "Null Layout"). Such an array has no mask, so that its nulls are put into the mask of
-- its path's leaf.
use Rattle.std.specs.Prelude.{◌≡◌, ◌<◌, ℕ, Bool, true, false, ◌||◌, Some, List, [], ◌∷◌, length, replicate, All}
use Rattle.std.proofs.lemmas.List.Elements.{All-from_recursion}
use Rattle.shredding.specs.Parts.{Part, leaf_part, list_part, struct_part, IsPath, path_slots, path_way}
use Rattle.columns_slots.specs.Slots.{tree_len}
use Rattle.columns_slots.specs.Tree.{ArrayTree}
use Rattle.levels.specs.Ranges.{leaf_count_or}
use Rattle.nested_paths.specs.Seen.{leaf_slot}
use Rattle.write_values.specs.Nulls.{TellsNulls}
use Rattle.write_values.specs.Wide.{found_none}

-- a leaf with a mask that keeps no position, and every other part as it is
abbrev pub hidden : Part → Part
hidden (leaf_part is_optional mask count) = leaf_part is_optional (Some (replicate count false)) count
hidden (list_part is_optional mask offsets) = list_part is_optional mask offsets
hidden (struct_part is_optional mask count) = struct_part is_optional mask count

-- The path has the rows of another one over the array, along the same way, and its masks tell the nulls of an array of nulls alone.
pub record IsSeenPath (a : ArrayTree) (old new : List Part) : Type 0 where
  pub well : IsPath new
  pub few : length new ≡ length old
  pub leaf : tree_len a ≡ leaf_count_or 0 new
  pub way : path_way new ≡ path_way old
  pub rows : path_slots (leaf_slot a) new ≡ path_slots (leaf_slot a) old
  pub told : TellsNulls a new

-- ---- whether places are reached

abbrev pub is_some_place : List ℕ → Bool
is_some_place [] = false
is_some_place (i ∷ is) = true

-- From one answer to the other these places were looked at, which are among so many.
pub record LooksAt (limit : ℕ) (places : List ℕ) (old new : Bool) : Type 0 where
  pub is : new ≡ (old || is_some_place places)
  pub within : All (λ i. i < limit) places

pub looks_none : (limit : ℕ) (b : Bool) → LooksAt limit [] b b
looks_none limit b = record { is = found_none b; within = All-from_recursion (λ i. i < limit) [] tt }
