-- Slots and columns of a path, of the same slots and values at the places that it reaches.
use Rattle.std.proofs.Common.{◌≡◌, ℕ, zero, suc, ◌+◌, Bool, true, false, cond, List, [], ◌∷◌, ◌++◌, refl, ap}
use Rattle.std.specs.List.{AllByRecursion as Each}
use Rattle.shredding.specs.Parts.{Part, leaf_part, list_part, struct_part, is_present, item_start, item_count, slot_count, slots_from, slot_in, path_slots, path_way}
use Rattle.shredding.specs.Shred.{column}
use Rattle.shredding.specs.Slot.{Value, Slot, null, value, items, fields, slot, no_slots, slots_of}
use Rattle.levels.specs.declared.nested.Nested.{Nested}
use Rattle.levels.specs.Nested.{parts_of, nested_column}
use Rattle.write_places.specs.Places.{gather, slot_places, path_places}

each_left : (P : ℕ → Type 0) (xs ys : List ℕ) → Each P (xs ++ ys) → Each P xs
each_left P [] ys h = tt
each_left P (x ∷ xs) ys h = (h.0, each_left P xs ys h.1)

each_right : (P : ℕ → Type 0) (xs ys : List ℕ) → Each P (xs ++ ys) → Each P ys
each_right P [] ys h = h
each_right P (x ∷ xs) ys h = each_right P xs ys h.1

module _ (f g : ℕ → Slot) where
  abbrev Alike : ℕ → Type 0
  Alike i = f i ≡ g i

  slots_alike : (piece : ℕ → List ℕ) (at to : ℕ → Slot) → ((i : ℕ) → Each Alike (piece i) → at i ≡ to i) → (place count : ℕ) → Each Alike (gather piece place count) → slots_from at place count ≡ slots_from to place count
  unfolding slots_from gather
  slots_alike piece at to same place zero e = refl
  slots_alike piece at to same place (suc count) e =
      let first = same place (each_left Alike (piece place) (gather piece (place + 1) count) e) in
      let rest = slots_alike piece at to same (place + 1) count (each_right Alike (piece place) (gather piece (place + 1) count) e) in
      λ i. first i ∷ rest i

  by_presence : (b : Bool) (there : List ℕ) (s u : Slot) → (Each Alike there → s ≡ u) → Each Alike (cond b there []) → cond b s null ≡ cond b u null
  by_presence true there s u h e = h e
  by_presence false there s u h e = refl

  slot_alike : (parts : List Part) (i : ℕ) → Each Alike (slot_places parts i) → slot_in f parts i ≡ slot_in g parts i
  unfolding slot_in slot_places
  slot_alike [] i e = refl
  slot_alike (leaf_part b m c ∷ parts) i e = by_presence (is_present b m i) (i ∷ []) (f i) (g i) (λ h. h.0) e
  slot_alike (list_part b m os ∷ parts) i e =
      by_presence (is_present b m i) (gather (slot_places parts) (item_start os i) (item_count os i)) _ _
      (λ h. ap (λ (ss : List Slot). items (slots_of ss)) (slots_alike (slot_places parts) (slot_in f parts) (slot_in g parts) (λ j k. slot_alike parts j k) (item_start os i) (item_count os i) h)) e
  slot_alike (struct_part b m c ∷ parts) i e =
      by_presence (is_present b m i) (slot_places parts i) _ _ (λ h. ap (λ (s : Slot). fields (slot s no_slots)) (slot_alike parts i h)) e

  pub slots_same : (parts : List Part) → Each Alike (path_places parts) → path_slots f parts ≡ path_slots g parts
  unfolding path_slots
  slots_same parts e = slots_alike (slot_places parts) (slot_in f parts) (slot_in g parts) (λ i k. slot_alike parts i k) 0 (slot_count parts) e

module _ (f g : ℕ → Value) where
  each_value : (places : List ℕ) → Each (λ i. f i ≡ g i) places → Each (λ i. value (f i) ≡ value (g i)) places
  each_value [] h = tt
  each_value (i ∷ is) h = (ap value h.0, each_value is h.1)

  pub columns_alike : (nested : List Nested) → Each (λ i. f i ≡ g i) (path_places (parts_of nested)) → nested_column f nested ≡ nested_column g nested
  columns_alike nested e =
      let parts = parts_of nested in
      ap (column (path_way parts)) (slots_same (λ i. value (f i)) (λ i. value (g i)) parts (each_value (path_places parts) e))
