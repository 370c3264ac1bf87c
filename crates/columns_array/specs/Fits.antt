-- Which parts make an array, as its constructor tests them.
use Rattle.std.specs.Prelude.{◌≡◌, ℕ, ◌-◌, ◌/◌, ◌%◌, ◌<◌, List, length, Option, Some}
use Rattle.columns_core.specs.Tree.{TypeTree, FieldTree, field, FieldTrees, no_fields, more_fields}
use Rattle.columns_slots.specs.Tree.{Mask, ArrayTree, ArrayTrees, no_arrays, more_arrays}
use Rattle.columns_slots.specs.Slots.{type_of, tree_len, first_len, count_arrays, IsPlaces, AreKeys}
use Rattle.shredding.specs.Parts.{MaskFits}
use Rattle.columns_slots.specs.Types.{fixed_item, fixed_size, entry_type, key_type, part_types}
use Rattle.columns_leaf.specs.Keyed.{keys_of, key_mask, key_kind}
use Rattle.columns_leaf.specs.declared.keys.DictionaryKeys.{DictionaryKeys}

-- The items are of the type that the list's type has for them, if it is a list's type at all. The last offset does not pass them.
abbrev pub FitsLists : Option TypeTree → List ℕ → ArrayTree → Mask → Type 0
FitsLists item os c m = (item ≡ Some (type_of c)) × IsPlaces os (tree_len c) × MaskFits m (length os - 1)

-- the items are of the type, and are a whole number of lists of its size
abbrev pub FitsFixedLists : TypeTree → ArrayTree → Mask → Type 0
FitsFixedLists t c m = (fixed_item t ≡ Some (type_of c)) × (0 < fixed_size t) × (tree_len c % fixed_size t ≡ 0) × MaskFits m (tree_len c / fixed_size t)

-- one array of n slots for each field, of its type
abbrev pub FitParts : ℕ → FieldTrees → ArrayTrees → Type 0
FitParts n no_fields no_arrays = Unit {0}
FitParts n (more_fields (field u t b m) fs) (more_arrays c cs) = (t ≡ type_of c) × (tree_len c ≡ n) × FitParts n fs cs
FitParts n _ _ = ⊥

-- there is an array, and one for each field of the type, of its type, all of one length
abbrev pub FitsStruct : TypeTree → ArrayTrees → Mask → Type 0
FitsStruct t cs m = (0 < count_arrays cs) × FitParts (first_len cs) (part_types t) cs × MaskFits m (first_len cs)

-- the keys and the entries are of the types that a dictionary's type has for them, and each key that is not null numbers an entry
abbrev pub FitsKeys : TypeTree → DictionaryKeys → ArrayTree → Type 0
FitsKeys t keys c = (entry_type t ≡ Some (type_of c)) × (key_type t ≡ Some (key_kind keys)) × AreKeys (key_mask keys) (keys_of keys) (tree_len c)
