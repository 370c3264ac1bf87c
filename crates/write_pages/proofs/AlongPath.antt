-- The rows of a path go along its way, over a leaf whose slots do.
use Rattle.std.proofs.Common.{◌≡◌, ℕ, zero, suc, ◌+◌, ◌<◌, Bool, true, false, cond, List, [], ◌∷◌, length, refl, arith, Option}
use Rattle.std.specs.List.{AllByRecursion as Each}
use Rattle.std.specs.Prelude.{All}
use Rattle.std.proofs.lemmas.List.Elements.{All-from_recursion}
use Rattle.shredding.specs.Along.{IsAlong}
use Rattle.shredding.specs.Parts.{Part, leaf_part, list_part, struct_part, is_present, slot_count, slots_from, path_way}
use Rattle.shredding.specs.Shape.{Way, at_leaf, in_list, in_struct}
use Rattle.shredding.specs.Slot.{Slot, null, fields, no_slots, slot, list_of, slots_of}
use Rattle.std.specs.Prelude.{slice_index, ◌-◌}
use Rattle.nested_paths.specs.PathLeaf.{is_leaf_optional}
use Rattle.levels.specs.InBounds.{IsInBounds, AreWithin, bounded_slot, bounded_slots}

each_along : (w : Way) (at : ℕ → Slot) → ((i : ℕ) → IsAlong w (at i)) → (place count : ℕ) → Each (IsAlong w) (slots_from at place count)
unfolding slots_from
each_along w at h place zero = tt
each_along w at h place (suc count) = (h place, each_along w at h (place + 1) count)

list_of-slots_of : (P : Slot → Type 0) (ss : List Slot) → Each P ss → Each P (list_of (slots_of ss))
list_of-slots_of P [] h = tt
list_of-slots_of P (s ∷ ss) h = (h.0, list_of-slots_of P ss h.1)

by_presence : (w : Way) (is_optional : Bool) (mask : Option (List Bool)) (i : ℕ) (s : Slot) → (is_optional ≡ true → IsAlong w null) → IsAlong w s → IsAlong w (cond (is_present is_optional mask i) s null)
by_presence w true mask i s n h = either w (is_present true mask i) s (n refl) h
  where
    either : (w : Way) (b : Bool) (s : Slot) → IsAlong w null → IsAlong w s → IsAlong w (cond b s null)
    either w true s n h = h
    either w false s n h = n
by_presence w false mask i s n h = h

module _ (leaf : ℕ → Slot) where
  -- each slot is one of the leaf: a null only where that is allowed
  abbrev pub AreOfLeaf : List Part → Type 0
  AreOfLeaf parts = (i : ℕ) → IsAlong (at_leaf (is_leaf_optional parts)) (leaf i)

  slot_along : (parts : List Part) → 0 < length parts → AreWithin parts → AreOfLeaf parts → (i : ℕ) → IsAlong (path_way parts) (bounded_slot leaf parts i)
  unfolding bounded_slot
  slot_along [] some fits are i = absurd (omega (arith, some))
  slot_along (leaf_part b m k ∷ parts) some fits are i = by_presence (at_leaf b) b m i (leaf i) (λ e. e) (are i)
  slot_along (list_part b m os ∷ parts) some fits are i =
      by_presence (in_list b (path_way parts)) b m i _ (λ e. e)
      (All-from_recursion (IsAlong (path_way parts)) _ (list_of-slots_of (IsAlong (path_way parts)) _ (each_along (path_way parts) (bounded_slot leaf parts) (slot_along parts fits.0.2 fits.1 are) (slice_index os i) (slice_index os (i + 1) - slice_index os i))))
  slot_along (struct_part b m k ∷ parts) some fits are i =
      by_presence (in_struct b zero (path_way parts)) b m i (fields (slot (bounded_slot leaf parts i) no_slots)) (λ e. e) (slot_along parts fits.0.2 fits.1 are i)

  pub rows_along : (parts : List Part) → IsInBounds parts → AreOfLeaf parts → All (IsAlong (path_way parts)) (bounded_slots leaf parts)
  unfolding bounded_slots
  rows_along parts h are =
      All-from_recursion (IsAlong (path_way parts)) (bounded_slots leaf parts)
      (each_along (path_way parts) (bounded_slot leaf parts) (slot_along parts h.some h.fits are) 0 (slot_count parts))
