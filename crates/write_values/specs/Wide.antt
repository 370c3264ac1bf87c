-- The decimals of an array by place.
use Rattle.std.specs.Prelude.{◌≡◌, refl, ℕ, map, Bool, true, false, ◌||◌}
use Rattle.shredding.specs.Slot.{Value}
use Rattle.columns_core.specs.Natives.{value_i128}
use Rattle.columns_core.specs.Shapes.{base}
use Rattle.columns_slots.specs.Slots.{tree_len}
use Rattle.columns_slots.specs.Tree.{ArrayTree, leaf_array}
use Rattle.nested_paths.specs.LeafNulls.{value_at}
use Rattle.write_values.specs.declared.decimals.Decimals.{Decimals}
use Rattle.write_values.specs.declared.leaf.Leaf.{Leaf}
use Rattle.write_values.specs.declared.leaf.Leaf.TheVariants as leaves

-- what the array stands for
abbrev pub decimals_tree : Decimals → ArrayTree
decimals_tree s = leaf_array s.array.now.0 (map (value_i128 (base s.array.now.0)) s.array.now.1.0) s.array.now.1.1

abbrev pub numbers_in : Decimals → ℕ
numbers_in s = tree_len (decimals_tree s)

abbrev pub number_at : Decimals → ℕ → Value
number_at s = value_at (decimals_tree s)

-- the values of the leaf are decimals by its kind
abbrev pub AreDecimals : Leaf → Type 0
AreDecimals (leaves.Decimal a form) = Unit {0}
AreDecimals leaf = ⊥

pub found_none : (b : Bool) → b ≡ (b || false)
found_none true = refl
found_none false = refl
