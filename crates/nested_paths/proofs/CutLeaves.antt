-- Cuts of leaf arrays.
use Rattle.std.proofs.Common.{◌≡◌, ℕ, pos, ◌+◌, ◌<◌, true, false, List, take, drop, get_or, refl, ap, ◌∙◌}
use Rattle.std.proofs.lemmas.List.{get_or-take, get_or-drop}
use Rattle.shredding.specs.Along.{along}
use Rattle.shredding.specs.Shape.{at_leaf}
use Rattle.shredding.specs.Slot.{truth, value}
use Rattle.columns_core.specs.Rising.{whole}
use Rattle.columns_slots.specs.Tree.{ArrayTree, null_array, leaf_array, list_array, fixed_list_array, struct_array, dictionary_array}
use Rattle.columns_slots.specs.Slots.{slot_at, cut}
use Rattle.nested_paths.specs.Seen.{leaf_slot}

cut_at : {A : Type 0} (xs : List A) (d : A) (o n i : ℕ) → i < n → get_or (take n (drop o xs)) i d ≡ get_or xs (o + i) d
cut_at xs d o n i l = get_or-take n (drop o xs) i d l ∙ get_or-drop o xs i d

pub cut_leaves : (a : ArrayTree) (o n i : ℕ) → i < n → leaf_slot (cut a o n) i ≡ leaf_slot a (o + i)
cut_leaves (null_array t k) o n i l = refl
cut_leaves (leaf_array t vs m) o n i l = ap value (cut_at vs (truth false) o n i l)
cut_leaves (list_array t os c m) o n i l = refl
cut_leaves (fixed_list_array t w k c m) o n i l = refl
cut_leaves (struct_array t cs m) o n i l = refl
cut_leaves (dictionary_array t ks c m) o n i l = ap (λ k. along (at_leaf true) (slot_at c (whole k))) (cut_at ks (pos 0) o n i l)
