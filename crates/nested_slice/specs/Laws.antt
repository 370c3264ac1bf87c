-- The law of cut paths.
use Rattle.std.specs.Prelude.{◌≡◌, ℕ, ◌+◌, ◌<◌, ◌≤◌, None, List, take, drop}
use Rattle.shredding.specs.Slot.{Slot}
use Rattle.shredding.specs.Parts.{Part, IsPath, slot_count, path_slots, path_way}
use Rattle.columns_slots.specs.Slots.{cut_mask}
use Rattle.levels.specs.InBounds.{IsInBounds, bounded_slots}
use Rattle.levels.specs.Ranges.{leaf_count_or}
use Rattle.nested_slice.specs.CutPath.{cut_parts, leaf_rows, leaf_mask_or, AreRising}

-- Whatever slots the leaf is read as: where the leaf that is left is read at each position as the whole leaf was there, the path that is left
-- stands for the cut slots. So the masks of required parts, the leaf's too, need not be looked at.
abbrev pub IsReadAsCut : List Part → List Part → ℕ → ℕ → Type 0
IsReadAsCut old new o n =
    (whole part : ℕ → Slot) → ((i : ℕ) → i < (leaf_rows old o n).1 → part i ≡ whole ((leaf_rows old o n).0 + i)) → path_slots part new ≡ take n (drop o (bounded_slots whole old))

-- What the cut of a path to n rows from row o on is. It is well formed, so that lengths, masks and offsets describe these rows and no others, has
-- n rows and the kinds of parts that it had. Its leaf has as many positions as the leaf keeps, with the mask that
-- it had there, and over these it stands for the cut slots.
pub record IsCutPath (parts : List Part) (o n : ℕ) : Type 0 where
  pub path : IsPath (cut_parts parts o n)
  pub rows : slot_count (cut_parts parts o n) ≡ n
  pub way : path_way (cut_parts parts o n) ≡ path_way parts
  pub leaf : leaf_count_or 0 (cut_parts parts o n) ≡ (leaf_rows parts o n).1
  pub mask : leaf_mask_or None (cut_parts parts o n) ≡ cut_mask (leaf_mask_or None parts) (leaf_rows parts o n).0 (leaf_rows parts o n).1
  pub within : (leaf_rows parts o n).0 + (leaf_rows parts o n).1 ≤ leaf_count_or 0 parts
  pub slots : IsReadAsCut parts (cut_parts parts o n) o n

-- after a cut of a path in bounds, lengths, masks and leaf values describe exactly the cut rows
abbrev pub CutsAreRows : Type 0
CutsAreRows = (parts : List Part) (o n : ℕ) → IsInBounds parts → AreRising parts → o + n ≤ slot_count parts → IsCutPath parts o n
