-- The array that is made of a leaf's slots (Arrow columnar format, "Fixed-Size Primitive Layout" and "Variable-size Binary Layout").
use Rattle.std.specs.Prelude.{◌≡◌, Bool, ◌&&◌, Some, None, List, [], ◌∷◌}
use Rattle.shredding.specs.Slot.{Slot, Value}
use Rattle.columns_core.specs.Shapes.{leaf_type}
use Rattle.columns_core.specs.Tree.{TypeTree}
use Rattle.columns_slots.specs.Slots.{slots, type_of}
use Rattle.columns_slots.specs.Tree.{ArrayTree, leaf_array}
use Rattle.pq_files.specs.Statistics.{has_order}
use Rattle.pq_headline.specs.Arrays.{entries_in}
use Rattle.read_leaf.specs.Fixed.{is_fixed}

-- the array has this type and these slots, and no dictionary
pub record IsLeafArray (t : TypeTree) (ss : List Slot) (a : ArrayTree) : Type 0 where
  pub typed : type_of a ≡ t
  pub same : slots a ≡ ss
  pub entries : entries_in a ≡ None ∷ []

-- the array of values and of which of them are there
abbrev pub masked_leaf : TypeTree → List Value → List Bool → ArrayTree
masked_leaf t vs bits = leaf_array t vs (Some bits)

-- the types of arrays of such numbers whose values are numbers: all but intervals
abbrev pub makes_numbers : (TypeTree → Bool) → TypeTree → Bool
makes_numbers stores t = stores t && has_order (leaf_type t)

-- the types of arrays of such numbers that are stored as bytes of one size
abbrev pub makes_fixed : (TypeTree → Bool) → TypeTree → Bool
makes_fixed stores t = stores t && is_fixed t
