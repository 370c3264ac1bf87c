-- What is stored for the column of a path over an array whose values are written.
use Rattle.std.proofs.Common.{◌≡◌, ◌<◌, ℕ, true, false, true≢false, List, [], ◌∷◌, refl, sym, subst, ◌∙◌, All, length}
use Rattle.std.specs.List.{AllByRecursion as Each}
use Rattle.std.proofs.lemmas.List.Elements.{All-from_recursion, recursion_from_All}
use Rattle.shredding.specs.Shape.{LeafType, decimal}
use Rattle.shredding.specs.Parts.{Part, path_slots}
use Rattle.shredding.specs.Slot.{Value, truth, value}
use Rattle.columns_core.specs.Shapes.{base, leaf_type}
use Rattle.columns_core.specs.Tree.{TypeTree}
use Rattle.columns_slots.specs.Slots.{IsSound, leaf_at, tree_len, type_of}
use Rattle.columns_slots.specs.Tree.{Mask, ArrayTree, null_array, leaf_array, list_array, fixed_list_array, struct_array, dictionary_array}
use Rattle.levels.specs.declared.nested.Nested.{Nested}
use Rattle.levels.specs.Nested.{parts_of, nested_column}
use Rattle.nested_paths.specs.LeafNulls.{value_at}
use Rattle.nested_paths.specs.Seen.{leaf_slot}
use Rattle.pq_tree.specs.Physical.{Physical}
use Rattle.pq_files.specs.Stored.{IsStored, AreStored}
use Rattle.write_places.specs.Places.{path_places}
use Rattle.write_places.proofs.StoredColumns.{columns_are_stored}
use Rattle.write_values.specs.Decimals.{HasWide}
use Rattle.write_values.specs.Nulls.{TellsNulls}
use Rattle.write_values.specs.Served.{is_served}
use Rattle.write_values.specs.Stored.{stored_value, stored_at}
use Rattle.write_values.proofs.AlikeColumns.{slots_same}
use Rattle.write_values.proofs.ServedTypes.{IsHeld, leaf_base, no_others, served_stored}
use Rattle.write_values.proofs.WideColumns.{HasRoom, places_held, served_room}

value_stored : (t : TypeTree) (vs : List Value) (m : Mask) (p : Physical) (i : ℕ) → IsSound (leaf_array t vs m) → is_served (base t) p ≡ true → i < length vs → IsHeld (leaf_type t) p (leaf_at vs i) → IsStored (leaf_type t) p (leaf_at vs i) (stored_at (leaf_array t vs m) p i)
value_stored t vs m p i s e h k =
    subst (λ (l : LeafType). IsStored l p (leaf_at vs i) (stored_value l p (leaf_at vs i))) (leaf_base t)
    (served_stored (base t) p (leaf_at vs i) e (s.2 i (truth false) h) (subst (λ (l : LeafType). IsHeld l p (leaf_at vs i)) (sym (leaf_base t)) k))

-- of what is both
each_both : (P Q R : ℕ → Type 0) → ((i : ℕ) → P i → Q i → R i) → (xs : List ℕ) → Each P xs → Each Q xs → Each R xs
each_both P Q R f [] h k = tt
each_both P Q R f (i ∷ is) h k = (f i h.0 k.0, each_both P Q R f is h.1 k.1)

-- of none
each_none : (P : ℕ → Type 0) (xs : List ℕ) → xs ≡ [] → Each P xs
each_none P xs e = subst (Each P) (sym e) tt

-- what is stored at the places that a path reaches
abbrev IsStoredAt : ArrayTree → Physical → ℕ → Type 0
IsStoredAt a p i = IsStored (leaf_type (type_of a)) p (value_at a i) (stored_at a p i)

abbrev IsHeldAt : ArrayTree → Physical → ℕ → Type 0
IsHeldAt a p i = IsHeld (leaf_type (type_of a)) p (value_at a i)

places_stored : (a : ArrayTree) (p : Physical) (parts : List Part) → IsSound a → is_served (base (type_of a)) p ≡ true → TellsNulls a parts → Each (λ i. i < tree_len a) (path_places parts) → Each (IsHeldAt a p) (path_places parts) → Each (IsStoredAt a p) (path_places parts)
places_stored (leaf_array t vs m) p parts s e told h k =
    each_both (λ i. i < length vs) (IsHeldAt (leaf_array t vs m) p) (IsStoredAt (leaf_array t vs m) p) (λ i l b. value_stored t vs m p i s e l b) (path_places parts) h k
places_stored (null_array t n) p parts s e told h k = each_none (IsStoredAt (null_array t n) p) (path_places parts) told
places_stored (list_array t os c m) p parts s e told h k = absurd (true≢false (sym e ∙ no_others (list_array t os c m) p refl s))
places_stored (fixed_list_array t w n c m) p parts s e told h k = absurd (true≢false (sym e ∙ no_others (fixed_list_array t w n c m) p refl s))
places_stored (struct_array t cs m) p parts s e told h k = absurd (true≢false (sym e ∙ no_others (struct_array t cs m) p refl s))
places_stored (dictionary_array t ks c m) p parts s e told h k = absurd (true≢false (sym e ∙ no_others (dictionary_array t ks c m) p refl s))

-- the room of a column of decimals
pub column_room : (a : ArrayTree) (p : Physical) → is_served (base (type_of a)) p ≡ true → leaf_type (type_of a) ≡ decimal → HasRoom p
column_room a p e h = served_room (base (type_of a)) p e (leaf_base (type_of a) ∙ h)

pub column_stored : (a : ArrayTree) (p : Physical) (nested : List Nested) → IsSound a → is_served (base (type_of a)) p ≡ true → TellsNulls a (parts_of nested) → All (λ i. i < tree_len a) (path_places (parts_of nested)) → ¬ HasWide (leaf_type (type_of a)) p (nested_column (value_at a) nested) → AreStored (leaf_type (type_of a)) p (nested_column (value_at a) nested) (nested_column (stored_at a p) nested)
column_stored a p nested s e told h n =
    let places = path_places (parts_of nested) in
    let held = places_held (leaf_type (type_of a)) p (value_at a) nested (column_room a p e) n in
    columns_are_stored (leaf_type (type_of a)) p (value_at a) (stored_at a p) nested
    (All-from_recursion (IsStoredAt a p) places (places_stored a p (parts_of nested) s e told (recursion_from_All (λ i. i < tree_len a) places h) held))

-- each slot that the path of such an array reaches is a value
pub slots_told : (a : ArrayTree) (p : Physical) (parts : List Part) → IsSound a → is_served (base (type_of a)) p ≡ true → TellsNulls a parts → path_slots (λ i. value (value_at a i)) parts ≡ path_slots (leaf_slot a) parts
slots_told (leaf_array t vs m) p parts s e told = refl
slots_told (null_array t n) p parts s e told =
    slots_same (λ i. value (value_at (null_array t n) i)) (leaf_slot (null_array t n)) parts (each_none (λ i. value (value_at (null_array t n) i) ≡ leaf_slot (null_array t n) i) (path_places parts) told)
slots_told (list_array t os c m) p parts s e told = absurd (true≢false (sym e ∙ no_others (list_array t os c m) p refl s))
slots_told (fixed_list_array t w n c m) p parts s e told = absurd (true≢false (sym e ∙ no_others (fixed_list_array t w n c m) p refl s))
slots_told (struct_array t cs m) p parts s e told = absurd (true≢false (sym e ∙ no_others (struct_array t cs m) p refl s))
slots_told (dictionary_array t ks c m) p parts s e told = absurd (true≢false (sym e ∙ no_others (dictionary_array t ks c m) p refl s))
