-- The nulls of a leaf. The levels of a path see those of the mask of its leaf alone; a null array has no mask, and a dictionary that of its
-- keys, whose entries may be null (Arrow columnar format, "Null Layout" and "Dictionary-encoded Layout").
use Rattle.std.specs.Prelude.{◌≡◌, ◌⊎◌, ◌<◌, ◌≤◌, ℕ, ◌+◌, Bool, true, false, ◌&&◌, List, [], ◌∷◌, length, take, drop, All}
use Rattle.shredding.specs.Along.{IsAlong}
use Rattle.shredding.specs.Parts.{Part, leaf_part, list_part, struct_part, keeps, MaskFits}
use Rattle.shredding.specs.Shape.{Way}
use Rattle.shredding.specs.Shred.{column}
use Rattle.shredding.specs.Slot.{Value, truth, Slot, null, value, items, fields}
use Rattle.columns_slots.specs.Tree.{Mask, ArrayTree}
use Rattle.levels.specs.Nested.{parts_of, nested_column}
use Rattle.levels.specs.Ranges.{leaf_count_or}
use Rattle.levels.specs.declared.nested.Nested.{Nested}
use Rattle.nested_slice.specs.CutPath.{cut_parts, leaf_rows, AreRising}
use Rattle.nested_paths.specs.PathLeaf.{leaf_mask, is_leaf_optional}
use Rattle.nested_paths.specs.Seen.{leaf_slot, IsSeen}

-- ---- a path

-- the path with another mask at its leaf
abbrev pub with_leaf_mask : Mask → List Part → List Part
with_leaf_mask m [] = []
with_leaf_mask m (leaf_part is_optional mask count ∷ parts) = leaf_part is_optional m count ∷ parts
with_leaf_mask m (list_part is_optional mask offsets ∷ parts) = list_part is_optional mask offsets ∷ with_leaf_mask m parts
with_leaf_mask m (struct_part is_optional mask count ∷ parts) = struct_part is_optional mask count ∷ with_leaf_mask m parts

-- ---- the nulls of a leaf array

abbrev pub is_value : Slot → Bool
is_value null = false
is_value (value v) = true
is_value (items ss) = false
is_value (fields ss) = false

-- the value of a slot, and false where there is none
abbrev pub value_in : Slot → Value
value_in null = truth false
value_in (value v) = v
value_in (items ss) = truth false
value_in (fields ss) = truth false

-- the value that a leaf array has at a position
abbrev pub value_at : ArrayTree → ℕ → Value
value_at a i = value_in (leaf_slot a i)

-- The mask of the leaf, if it may be null, is unset also where the array has no value: at all positions of a null array, and at the keys
-- of null entries. Nothing else of the path changes, and nothing at all where the leaf is required.
pub record MergesNulls (a : ArrayTree) (old new : List Part) : Type 0 where
  pub parts : new ≡ with_leaf_mask (leaf_mask new) old
  pub fits : MaskFits (leaf_mask new) (leaf_count_or 0 old)
  pub nulls : is_leaf_optional old ≡ true → (i : ℕ) → i < leaf_count_or 0 old → keeps (leaf_mask new) i ≡ (keeps (leaf_mask old) i && is_value (leaf_slot a i))
  pub required : is_leaf_optional old ≡ false → new ≡ old

-- ---- the law

-- What a path and its leaf array stand for of some rows is, once the nulls are merged and the path is cut to these rows, its column: the
-- levels are those that the iterators give, and the values those of the leaf array from the leaf's first row on. A required leaf reaches
-- no null.
abbrev pub MergedPathsHaveColumns : Type 0
MergedPathsHaveColumns =
    (rows : List Slot) (w : Way) (a : ArrayTree) (old new : List Part) (nested : List Nested) (o n : ℕ) → IsSeen rows w old a → AreRising old → MergesNulls a old new
    → (is_leaf_optional old ≡ true) ⊎ All (IsAlong w) rows → o + n ≤ length rows → parts_of nested ≡ cut_parts new o n
    → nested_column (λ i. value_at a ((leaf_rows new o n).0 + i)) nested ≡ column w (take n (drop o rows))
