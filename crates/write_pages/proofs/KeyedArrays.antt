-- Which arrays are dictionaries, and their entries.
use Rattle.std.proofs.Common.{◌≡◌, ◌∙◌, ℕ, ◌<◌, Bool, true, false, true≢false, Some, None, refl, sym, ap, subst, arith}
use Rattle.columns_core.specs.Shapes.{base}
use Rattle.columns_core.specs.Tree.{TypeTree, t_dictionary}
use Rattle.columns_entries.specs.Entries.{entries_of}
use Rattle.columns_slots.specs.Slots.{AreTyped, IsSound, child_of, count_arrays, cut, keys_in, mask_of, type_of}
use Rattle.columns_slots.specs.Tree.{ArrayTree, null_array, leaf_array, list_array, fixed_list_array, struct_array, dictionary_array, ArrayTrees, no_arrays, more_arrays}
use Rattle.columns_slots.specs.Types.{entry_type, fixed_item, is_leaf, is_null_type, list_item, part_types}
use Rattle.schema_to_tree.specs.Encodes.{is_dictionary}
use Rattle.write_pages.specs.Entries.{leaf_entries}

null_no_keys : (t : TypeTree) → is_null_type t ≡ true → is_dictionary t ≡ false
null_no_keys (t_dictionary k u s) e = absurd (true≢false (sym e))
null_no_keys t e = refl

leaf_no_keys : (t : TypeTree) → is_leaf t ≡ true → is_dictionary t ≡ false
leaf_no_keys (t_dictionary k u s) e = absurd (true≢false (sym e))
leaf_no_keys t e = refl

list_no_keys : (t u : TypeTree) → list_item t ≡ Some u → is_dictionary t ≡ false
list_no_keys (t_dictionary k v s) u e = cc
list_no_keys t u e = refl

fixed_no_keys : (t u : TypeTree) → fixed_item t ≡ Some u → is_dictionary t ≡ false
fixed_no_keys (t_dictionary k v s) u e = cc
fixed_no_keys t u e = refl

struct_no_keys : (t : TypeTree) (cs : ArrayTrees) → AreTyped (part_types t) cs → 0 < count_arrays cs → is_dictionary t ≡ false
struct_no_keys (t_dictionary k v s) no_arrays h n = absurd (omega (arith, n))
struct_no_keys (t_dictionary k v s) (more_arrays c cs) h n = absurd h
struct_no_keys t cs h n = refl

keys_here : (t u : TypeTree) → entry_type t ≡ Some u → is_dictionary t ≡ true
keys_here (t_dictionary k v s) u e = refl
keys_here t u e = cc

-- whether an array has a key for each position
abbrev pub has_keys : ArrayTree → Bool
has_keys (dictionary_array t ks c m) = true
has_keys a = false

-- an array of no keys is of no dictionary type, and one of keys is
pub no_keys : (a : ArrayTree) → IsSound a → has_keys a ≡ false → is_dictionary (base (type_of a)) ≡ false
no_keys (null_array t n) s e = null_no_keys (base t) s
no_keys (leaf_array t vs m) s e = leaf_no_keys (base t) s.1
no_keys (list_array t os c m) s e = list_no_keys (base t) (type_of c) s.3
no_keys (fixed_list_array t w n c m) s e = fixed_no_keys (base t) (type_of c) s.3
no_keys (struct_array t cs m) s e = struct_no_keys (base t) cs s.2 s.3
no_keys (dictionary_array t ks c m) s e = absurd (true≢false e)

pub some_keys : (a : ArrayTree) → IsSound a → has_keys a ≡ true → is_dictionary (base (type_of a)) ≡ true
some_keys (dictionary_array t ks c m) s e = keys_here (base t) (type_of c) s.2
some_keys (null_array t n) s e = absurd (true≢false (sym e))
some_keys (leaf_array t vs m) s e = absurd (true≢false (sym e))
some_keys (list_array t os c m) s e = absurd (true≢false (sym e))
some_keys (fixed_list_array t w n c m) s e = absurd (true≢false (sym e))
some_keys (struct_array t cs m) s e = absurd (true≢false (sym e))

-- ---- the parts of a dictionary

abbrev pub IsKeyed : ArrayTree → Type 0
IsKeyed a = a ≡ dictionary_array (type_of a) (keys_in a) (child_of a) (mask_of a)

pub is_keyed : (a : ArrayTree) → IsKeyed a → IsSound a → is_dictionary (base (type_of a)) ≡ true
is_keyed a e s = some_keys a s (ap has_keys e)

-- ---- entries

-- what is no dictionary has none
pub no_entries : (a : ArrayTree) → IsSound a → is_dictionary (base (type_of a)) ≡ false → leaf_entries a ≡ None
no_entries (null_array t n) s e = refl
no_entries (leaf_array t vs m) s e = refl
no_entries (list_array t os c m) s e = refl
no_entries (fixed_list_array t w n c m) s e = refl
no_entries (struct_array t cs m) s e = refl
no_entries (dictionary_array t ks c m) s e = absurd (true≢false (sym (keys_here (base t) (type_of c) s.2) ∙ e))

pub own_entries : (a : ArrayTree) → IsKeyed a → leaf_entries a ≡ Some (entries_of (child_of a))
own_entries a e = ap leaf_entries e

-- a cut of it has all of them
pub cut_child : (a : ArrayTree) (o n : ℕ) → IsKeyed a → child_of (cut a o n) ≡ child_of a
cut_child a o n e = ap (λ (x : ArrayTree). child_of (cut x o n)) e

-- ---- its type

pub entries_typed : (a : ArrayTree) → IsKeyed a → IsSound a → entry_type (base (type_of a)) ≡ Some (type_of (child_of a))
entries_typed a e s = (subst IsSound e s).2
