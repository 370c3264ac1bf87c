-- The slots of a path go along its way.
use Rattle.std.proofs.Common.{◌≡◌, ℕ, zero, suc, ◌+◌, ◌<◌, Bool, true, false, cond, List, [], ◌∷◌, length, refl, ap, arith, Option}
use Rattle.std.specs.List.{AllByRecursion as Each}
use Rattle.shredding.specs.Slot.{Value, Slot, null, value, fields, no_slots, slot, list_of, slots_of}
use Rattle.shredding.specs.Shape.{Way, at_leaf, in_list, in_struct}
use Rattle.std.proofs.lemmas.List.Elements.{All-from_recursion}
use Rattle.std.specs.Prelude.{All}
use Rattle.shredding.specs.Along.{IsAlong}
use Rattle.shredding.specs.Parts.{Part, leaf_part, list_part, struct_part, is_present, item_start, item_count, slot_count, slots_from, slot_in, path_slots, path_way, FitTogether, IsPath}

each_along : (w : Way) (at : ℕ → Slot) → ((i : ℕ) → IsAlong w (at i)) → (place count : ℕ) → Each (IsAlong w) (slots_from at place count)
unfolding slots_from
each_along w at h place zero = tt
each_along w at h place (suc count) = (h place, each_along w at h (place + 1) count)

list_of-slots_of : (P : Slot → Type 0) (ss : List Slot) → Each P ss → Each P (list_of (slots_of ss))
list_of-slots_of P [] h = tt
list_of-slots_of P (s ∷ ss) h = (h.0, list_of-slots_of P ss h.1)

by_presence : (w : Way) (is_optional : Bool) (mask : Option (List Bool)) (i : ℕ) (s : Slot) → (is_optional ≡ true → IsAlong w null) → IsAlong w s → IsAlong w (cond (is_present is_optional mask i) s null)
by_presence w true mask i s n h = either w (is_present true mask i) s (n refl) h
  where
    either : (w : Way) (b : Bool) (s : Slot) → IsAlong w null → IsAlong w s → IsAlong w (cond b s null)
    either w true s n h = h
    either w false s n h = n
by_presence w false mask i s n h = h

pub slot_along : (stored : ℕ → Value) (parts : List Part) → 0 < length parts → FitTogether parts → (i : ℕ) → IsAlong (path_way parts) (slot_in (λ j. value (stored j)) parts i)
unfolding slot_in
slot_along stored [] some fits i = absurd (omega arith)
slot_along stored (leaf_part b m k ∷ parts) some fits i = by_presence (at_leaf b) b m i (value (stored i)) (λ e. e) tt
slot_along stored (list_part b m os ∷ parts) some fits i =
    by_presence (in_list b (path_way parts)) b m i _ (λ e. e) (All-from_recursion (IsAlong (path_way parts)) _ (list_of-slots_of (IsAlong (path_way parts)) _ (each_along (path_way parts) (slot_in (λ j. value (stored j)) parts) (slot_along stored parts fits.0.2 fits.1) (item_start os i) (item_count os i))))
slot_along stored (struct_part b m k ∷ parts) some fits i =
    by_presence (in_struct b zero (path_way parts)) b m i (fields (slot (slot_in (λ j. value (stored j)) parts i) no_slots)) (λ e. e) (slot_along stored parts fits.0.2 fits.1 i)

pub path_along : (stored : ℕ → Value) (parts : List Part) → IsPath parts → All (IsAlong (path_way parts)) (path_slots (λ j. value (stored j)) parts)
unfolding path_slots
path_along stored parts well =
    All-from_recursion (IsAlong (path_way parts)) (path_slots (λ j. value (stored j)) parts)
    (each_along (path_way parts) (slot_in (λ j. value (stored j)) parts) (slot_along stored parts well.some well.fits) 0 (slot_count parts))

pub length-slots_from : (at : ℕ → Slot) (place count : ℕ) → length (slots_from at place count) ≡ count
unfolding slots_from
length-slots_from at place zero = refl
length-slots_from at place (suc count) = ap suc (length-slots_from at (place + 1) count)

pub length-path_slots : (at : ℕ → Slot) (parts : List Part) → length (path_slots at parts) ≡ slot_count parts
unfolding path_slots
length-path_slots at parts = length-slots_from (slot_in at parts) 0 (slot_count parts)
