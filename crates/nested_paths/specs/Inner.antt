-- What is inside an array, as a walk to the leaves finds it.
use Rattle.std.specs.Prelude.{◌≡◌, Bool, true, false}
use Rattle.columns_slots.specs.Tree.{ArrayTree, null_array, leaf_array, list_array, fixed_list_array, struct_array, dictionary_array}
use Rattle.columns_slots.specs.Slots.{type_of, mask_of, offsets_of}
use Rattle.columns_array.specs.Boxed.{boxed, all_boxed}
use Rattle.nested_paths.specs.declared.inner.Inner.{Inner}
use Rattle.nested_paths.specs.declared.inner.Inner.TheVariants.{Leaf, Items, Fields, Fixed}

abbrev pub is_leaf : ArrayTree → Bool
is_leaf (null_array t n) = true
is_leaf (leaf_array t vs m) = true
is_leaf (list_array t os c m) = false
is_leaf (fixed_list_array t w n c m) = false
is_leaf (struct_array t cs m) = false
is_leaf (dictionary_array t ks c m) = true

abbrev pub is_fixed_list : ArrayTree → Bool
is_fixed_list (null_array t n) = false
is_fixed_list (leaf_array t vs m) = false
is_fixed_list (list_array t os c m) = false
is_fixed_list (fixed_list_array t w n c m) = true
is_fixed_list (struct_array t cs m) = false
is_fixed_list (dictionary_array t ks c m) = false

abbrev pub IsInner : ArrayTree → Inner → Type 0
IsInner a Leaf = is_leaf a ≡ true
IsInner a (Items items) = a ≡ list_array (type_of a) (offsets_of a) (boxed items.now) (mask_of a)
IsInner a (Fields arrays) = a ≡ struct_array (type_of a) (all_boxed arrays.now) (mask_of a)
IsInner a Fixed = is_fixed_list a ≡ true
