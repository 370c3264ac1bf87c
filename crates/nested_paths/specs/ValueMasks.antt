-- Masks of the positions at which a leaf array has a value, as a walk over it finds them.
use Rattle.std.specs.Prelude.{◌≡◌, ◌<◌, ℕ, Bool, true, false, ◌&&◌, not, Option, Some, None, List, map, length}
use Rattle.shredding.specs.Parts.{keeps}
use Rattle.columns_slots.specs.Tree.{Mask, ArrayTree, null_array, leaf_array, list_array, fixed_list_array, struct_array, dictionary_array}
use Rattle.columns_slots.specs.Slots.{slots, tree_len, type_of, keys_in, child_of, mask_of, is_null}
use Rattle.nested_paths.specs.LeafNulls.{is_value}
use Rattle.nested_paths.specs.Seen.{leaf_slot}
use Rattle.nested_paths.specs.declared.merge.Content.{Content}
use Rattle.nested_paths.specs.declared.merge.Content.TheVariants.{Nothing, Values, Entries}

-- the masks keep the same of n positions
abbrev pub KeepAlike : Mask → Mask → ℕ → Type 0
KeepAlike m k n = (i : ℕ) → i < n → keeps m i ≡ keeps k i

-- no position has a value: there are nulls alone, or lists or structs
abbrev pub lacks_values : ArrayTree → Bool
lacks_values (null_array t n) = true
lacks_values (leaf_array t vs m) = false
lacks_values (list_array t os c m) = true
lacks_values (fixed_list_array t w n c m) = true
lacks_values (struct_array t cs m) = true
lacks_values (dictionary_array t ks c m) = false

-- each position has a value, if it is not null
abbrev pub is_valued : ArrayTree → Bool
is_valued (null_array t n) = false
is_valued (leaf_array t vs m) = true
is_valued (list_array t os c m) = false
is_valued (fixed_list_array t w n c m) = false
is_valued (struct_array t cs m) = false
is_valued (dictionary_array t ks c m) = false

-- what the positions of an array have, nulls aside
abbrev pub HasContent : ArrayTree → Content → Type 0
HasContent a Nothing = lacks_values a ≡ true
HasContent a Values = is_valued a ≡ true
HasContent a (Entries keyed) = (keyed.now ≡ a) × (a ≡ dictionary_array (type_of a) (keys_in a) (child_of a) (mask_of a))

-- the slots that are not null are values
abbrev pub holds_values : ArrayTree → Bool
holds_values (null_array t n) = false
holds_values (leaf_array t vs m) = true
holds_values (list_array t os c m) = false
holds_values (fixed_list_array t w n c m) = false
holds_values (struct_array t cs m) = false
holds_values (dictionary_array t ks c m) = holds_values c

-- which slots are not null
abbrev pub present_slots : ArrayTree → List Bool
present_slots a = map (λ s. not (is_null s)) (slots a)

-- A mask of the positions that the array's own mask keeps and that have a value, or none where the array's own mask is such a mask.
abbrev pub IsValueMask : ArrayTree → Option (List Bool) → Type 0
IsValueMask a None = (i : ℕ) → i < tree_len a → keeps (mask_of a) i ≡ true → is_value (leaf_slot a i) ≡ true
IsValueMask a (Some m) = (length m ≡ tree_len a) × ((i : ℕ) → i < tree_len a → keeps (Some m) i ≡ (keeps (mask_of a) i && is_value (leaf_slot a i)))
