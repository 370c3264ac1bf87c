-- The leaf of a path and its array.
use Rattle.std.specs.Prelude.{◌≡◌, ◌<◌, ℕ, Bool, true, false, None, List, [], ◌∷◌}
use Rattle.shredding.specs.Parts.{Part, leaf_part, list_part, struct_part, keeps}
use Rattle.columns_slots.specs.Tree.{Mask, ArrayTree}
use Rattle.columns_slots.specs.Slots.{tree_len, mask_of}
use Rattle.levels.specs.Ranges.{leaf_count_or}

-- the mask of the leaf
abbrev pub leaf_mask : List Part → Mask
leaf_mask [] = None
leaf_mask (leaf_part is_optional mask count ∷ parts) = mask
leaf_mask (list_part is_optional mask offsets ∷ parts) = leaf_mask parts
leaf_mask (struct_part is_optional mask count ∷ parts) = leaf_mask parts

-- whether the leaf may be null
abbrev pub is_leaf_optional : List Part → Bool
is_leaf_optional [] = false
is_leaf_optional (leaf_part is_optional mask count ∷ parts) = is_optional
is_leaf_optional (list_part is_optional mask offsets ∷ parts) = is_leaf_optional parts
is_leaf_optional (struct_part is_optional mask count ∷ parts) = is_leaf_optional parts

-- The array is one of the path's leaf: it has as many positions, and where the leaf may be null both masks keep the same positions.
pub record FitsLeaf (a : ArrayTree) (parts : List Part) : Type 0 where
  pub count : leaf_count_or 0 parts ≡ tree_len a
  pub masks : is_leaf_optional parts ≡ true → (i : ℕ) → i < tree_len a → keeps (leaf_mask parts) i ≡ keeps (mask_of a) i
