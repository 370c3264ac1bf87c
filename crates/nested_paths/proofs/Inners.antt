-- What is known of an array whose kind is told.
use Rattle.std.proofs.Common.{◌≡◌, ℕ, ◌+◌, Bool, refl, ap}
use Rattle.shredding.specs.Parts.{leaf_part, list_part, struct_part}
use Rattle.columns_slots.specs.Tree.{ArrayTree, null_array, leaf_array, list_array, fixed_list_array, struct_array, dictionary_array, ArrayTrees}
use Rattle.columns_slots.specs.Slots.{type_of, mask_of, offsets_of, keys_in, child_of, children_of, tree_len, tree_size, trees_size}
use Rattle.nested_paths.specs.Paths.{part_at}

-- ---- parts

pub list_is : (b : Bool) (a : ArrayTree) → a ≡ list_array (type_of a) (offsets_of a) (child_of a) (mask_of a) → part_at b a ≡ list_part b (mask_of a) (offsets_of a)
list_is b a e = ap (part_at b) e

pub struct_is : (b : Bool) (a : ArrayTree) → a ≡ struct_array (type_of a) (children_of a) (mask_of a) → part_at b a ≡ struct_part b (mask_of a) (tree_len a)
struct_is b (null_array t n) e = absurd (cc)
struct_is b (leaf_array t vs m) e = absurd (cc)
struct_is b (list_array t os c m) e = absurd (cc)
struct_is b (fixed_list_array t w n c m) e = absurd (cc)
struct_is b (struct_array t cs m) e = refl
struct_is b (dictionary_array t ks c m) e = absurd (cc)

pub fixed_is : (b : Bool) (a : ArrayTree) (w : ℕ) → a ≡ fixed_list_array (type_of a) w (tree_len a) (child_of a) (mask_of a) → part_at b a ≡ leaf_part b (mask_of a) (tree_len a)
fixed_is b a w e = ap (part_at b) e

pub keyed_is : (b : Bool) (a : ArrayTree) → a ≡ dictionary_array (type_of a) (keys_in a) (child_of a) (mask_of a) → part_at b a ≡ leaf_part b (mask_of a) (tree_len a)
keyed_is b (null_array t n) e = absurd (cc)
keyed_is b (leaf_array t vs m) e = absurd (cc)
keyed_is b (list_array t os c m) e = absurd (cc)
keyed_is b (fixed_list_array t w n c m) e = absurd (cc)
keyed_is b (struct_array t cs m) e = absurd (cc)
keyed_is b (dictionary_array t ks c m) e = refl

-- ---- sizes

pub items_smaller : (a c : ArrayTree) → a ≡ list_array (type_of a) (offsets_of a) c (mask_of a) → tree_size a ≡ tree_size c + 1
items_smaller a c e = ap tree_size e

pub fields_smaller : (a : ArrayTree) (cs : ArrayTrees) → a ≡ struct_array (type_of a) cs (mask_of a) → tree_size a ≡ trees_size cs + 1
fields_smaller a cs e = ap tree_size e
