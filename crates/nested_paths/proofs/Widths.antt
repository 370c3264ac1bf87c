-- The kinds of the parts of paths.
use Rattle.std.proofs.Common.{◌≡◌, ℕ, Bool, true, false, Some, List, [], ◌∷◌, ◌++◌, Result, Ok, Err, IfOk, append_assoc, refl, sym, ap, ◌∙◌}
use Rattle.columns_base.specs.declared.error.Error.{Error}
use Rattle.columns_core.specs.Shapes.{base}
use Rattle.columns_core.specs.Tree.{TypeTree, t_list, t_large_list, t_map}
use Rattle.columns_slots.specs.Tree.{ArrayTree, list_array, fixed_list_array, struct_array, dictionary_array, ArrayTrees}
use Rattle.columns_slots.specs.Slots.{type_of, mask_of, offsets_of, keys_in, child_of, children_of, tree_len}
use Rattle.columns_slots.specs.Types.{small_item, large_item, map_item}
use Rattle.nested_paths.specs.Kinds.{is_large_type, is_large_array, kinds_below, kinds, kinds_in}

-- ---- the kind of one array

small_type : (t x : TypeTree) → small_item t ≡ Some x → is_large_type t ≡ false
small_type (t_list f) x e = refl
small_type t x e = absurd (cc)

large_type : (t x : TypeTree) → large_item t ≡ Some x → is_large_type t ≡ true
large_type (t_large_list f) x e = refl
large_type t x e = absurd (cc)

map_type : (t x : TypeTree) → map_item t ≡ Some x → is_large_type t ≡ false
map_type (t_map f s) x e = refl
map_type t x e = absurd (cc)

pub small_is : (a : ArrayTree) → a ≡ list_array (type_of a) (offsets_of a) (child_of a) (mask_of a) → small_item (base (type_of a)) ≡ Some (type_of (child_of a)) → is_large_array a ≡ false
small_is a e h = ap is_large_array e ∙ small_type (base (type_of a)) (type_of (child_of a)) h

pub large_is : (a : ArrayTree) → a ≡ list_array (type_of a) (offsets_of a) (child_of a) (mask_of a) → large_item (base (type_of a)) ≡ Some (type_of (child_of a)) → is_large_array a ≡ true
large_is a e h = ap is_large_array e ∙ large_type (base (type_of a)) (type_of (child_of a)) h

pub map_is : (a : ArrayTree) → a ≡ list_array (type_of a) (offsets_of a) (child_of a) (mask_of a) → map_item (base (type_of a)) ≡ Some (type_of (child_of a)) → is_large_array a ≡ false
map_is a e h = ap is_large_array e ∙ map_type (base (type_of a)) (type_of (child_of a)) h

pub struct_is_small : (a : ArrayTree) → a ≡ struct_array (type_of a) (children_of a) (mask_of a) → is_large_array a ≡ false
struct_is_small a e = ap is_large_array e

pub fixed_is_small : (a : ArrayTree) (w : ℕ) → a ≡ fixed_list_array (type_of a) w (tree_len a) (child_of a) (mask_of a) → is_large_array a ≡ false
fixed_is_small a w e = ap is_large_array e

pub keyed_is_small : (a : ArrayTree) → a ≡ dictionary_array (type_of a) (keys_in a) (child_of a) (mask_of a) → is_large_array a ≡ false
keyed_is_small a e = ap is_large_array e

-- ---- walks

below_below : (parents : List Bool) (b : Bool) (ps : List (List Bool)) → kinds_below parents (kinds_below (b ∷ []) ps) ≡ kinds_below (parents ++ b ∷ []) ps
below_below parents b [] = refl
below_below parents b (p ∷ ps) = rw (below_below parents b ps, append_assoc parents (b ∷ []) p) refl

deeper : (parents path : List Bool) (b : Bool) (old new inside outside : List (List Bool)) → path ≡ parents ++ b ∷ [] → outside ≡ kinds_below (b ∷ []) inside → new ≡ old ++ kinds_below path inside → new ≡ old ++ kinds_below parents outside
deeper parents path b old new inside outside is out h =
    h ∙ ap (λ ps. old ++ ps) (ap (λ q. kinds_below q inside) is ∙ sym (below_below parents b inside) ∙ ap (kinds_below parents) (sym out))

pub items_kept : (parents path : List Bool) (a c : ArrayTree) (old new : List (List Bool)) (r : Result (Unit {0}) Error) → a ≡ list_array (type_of a) (offsets_of a) c (mask_of a) → path ≡ parents ++ is_large_array a ∷ []
    → IfOk r (λ u. new ≡ old ++ kinds_below path (kinds c)) → IfOk r (λ u. new ≡ old ++ kinds_below parents (kinds a))
items_kept parents path a c old new (Ok u) e path_is h =
    deeper parents path (is_large_array a) old new (kinds c) (kinds a) path_is (ap kinds e ∙ ap (λ b. kinds_below (is_large_array b ∷ []) (kinds c)) (sym e)) h
items_kept parents path a c old new (Err error) e path_is h = tt

pub fields_kept : (parents path : List Bool) (a : ArrayTree) (cs : ArrayTrees) (old new : List (List Bool)) (r : Result (Unit {0}) Error) → a ≡ struct_array (type_of a) cs (mask_of a) → path ≡ parents ++ is_large_array a ∷ []
    → IfOk r (λ u. new ≡ old ++ kinds_below path (kinds_in cs)) → IfOk r (λ u. new ≡ old ++ kinds_below parents (kinds a))
fields_kept parents path a cs old new (Ok u) e path_is h =
    deeper parents path false old new (kinds_in cs) (kinds a) (path_is ∙ ap (λ b. parents ++ b ∷ []) (ap is_large_array e)) (ap kinds e) h
fields_kept parents path a cs old new (Err error) e path_is h = tt

-- without parents
pub kinds_below_none : (ps : List (List Bool)) → kinds_below [] ps ≡ ps
kinds_below_none [] = refl
kinds_below_none (p ∷ ps) = ap (λ qs. p ∷ qs) (kinds_below_none ps)
