-- A column is stored value by value.
use Rattle.std.proofs.Common.{◌≡◌, ℕ, zero, suc, ◌+◌, Bool, true, false, cond, List, [], ◌∷◌, ◌++◌, flat_map, refl, sym, subst, ap}
use Rattle.std.specs.List.{AllByRecursion as Each, AllZip}
use Rattle.std.proofs.lemmas.List.Elements.{recursion_from_All}
use Rattle.shredding.specs.Slot.{Value, Slot, null, value, items, fields, no_slots, slot, list_of, slots_of}
use Rattle.shredding.specs.Shape.{LeafType, Way, at_leaf, in_list, in_struct}
use Rattle.shredding.specs.Shred.{Triple, up, shred}
use Rattle.shredding.specs.Parts.{Part, leaf_part, list_part, struct_part, is_present, item_start, item_count, slot_count, slots_from, slot_in, path_slots, path_way}
use Rattle.pq_tree.specs.Physical.{Physical}
use Rattle.pq_files.specs.Stored.{IsStored, IsStoredTriple, AreStored}
use Rattle.levels.specs.Nested.{parts_of}
use Rattle.write_places.specs.Laws.{ColumnsAreStored}
use Rattle.write_places.specs.Places.{gather, slot_places, path_places}

each_left : {X : Type 0} (P : X → Type 0) (xs ys : List X) → Each P (xs ++ ys) → Each P xs
each_left P [] ys h = tt
each_left P (x ∷ xs) ys h = (h.0, each_left P xs ys h.1)

each_right : {X : Type 0} (P : X → Type 0) (xs ys : List X) → Each P (xs ++ ys) → Each P ys
each_right P [] ys h = h
each_right P (x ∷ xs) ys h = each_right P xs ys h.1

zip-append : {A B : Type 0} (R : A → B → Type 0) (xs cs : List A) (bs ds : List B) → AllZip R xs bs → AllZip R cs ds → AllZip R (xs ++ cs) (bs ++ ds)
zip-append R [] cs [] ds h g = g
zip-append R [] cs (b ∷ bs) ds h g = absurd h
zip-append R (a ∷ xs) cs [] ds h g = absurd h
zip-append R (a ∷ xs) cs (b ∷ bs) ds h g = (h.0, zip-append R xs cs bs ds h.1 g)

list_of-slots_of : (ss : List Slot) → list_of (slots_of ss) ≡ ss
list_of-slots_of [] = refl
list_of-slots_of (s ∷ ss) = ap (λ c. s ∷ c) (list_of-slots_of ss)

module _ (t : LeafType) (p : Physical) where
  abbrev Zip : List Triple → List Triple → Type 0
  Zip xs ys = AreStored t p xs ys

  rows_stored : (P : ℕ → Type 0) (w : Way) (d k r : ℕ) (piece : ℕ → List ℕ) (at to : ℕ → Slot) → ((rep i : ℕ) → Each P (piece i) → Zip (shred w (at i) rep d k) (shred w (to i) rep d k)) → (place count : ℕ) → Each P (gather piece place count) → Zip (flat_map (λ s. shred w s r d k) (slots_from at place count)) (flat_map (λ s. shred w s r d k) (slots_from to place count))
  unfolding slots_from gather
  rows_stored P w d k r piece at to same place zero e = tt
  rows_stored P w d k r piece at to same place (suc count) e =
      zip-append (IsStoredTriple t p) _ _ _ _ (same r place (each_left P (piece place) (gather piece (place + 1) count) e)) (rows_stored P w d k r piece at to same (place + 1) count (each_right P (piece place) (gather piece (place + 1) count) e))

  items_stored : (P : ℕ → Type 0) (n : Bool) (w : Way) (r d k : ℕ) (piece : ℕ → List ℕ) (at to : ℕ → Slot) → ((rep i : ℕ) → Each P (piece i) → Zip (shred w (at i) rep (suc (up n d)) (suc k)) (shred w (to i) rep (suc (up n d)) (suc k))) → (place count : ℕ) → Each P (gather piece place count) → Zip (shred (in_list n w) (items (slots_of (slots_from at place count))) r d k) (shred (in_list n w) (items (slots_of (slots_from to place count))) r d k)
  unfolding shred slots_from gather
  items_stored P n w r d k piece at to same place zero e = (record { repetition = refl; definition = refl; «value» = tt }, tt)
  items_stored P n w r d k piece at to same place (suc count) e =
      let rest = rows_stored P w (suc (up n d)) (suc k) (suc k) piece at to same (place + 1) count (each_right P (piece place) (gather piece (place + 1) count) e) in
      zip-append (IsStoredTriple t p) _ _ _ _ (same r place (each_left P (piece place) (gather piece (place + 1) count) e))
      (subst (λ (ss : List Slot). Zip (flat_map (λ s. shred w s (suc k) (suc (up n d)) (suc k)) ss) (flat_map (λ s. shred w s (suc k) (suc (up n d)) (suc k)) (list_of (slots_of (slots_from to (place + 1) count))))) (sym (list_of-slots_of (slots_from at (place + 1) count)))
      (subst (λ (ss : List Slot). Zip (flat_map (λ s. shred w s (suc k) (suc (up n d)) (suc k)) (slots_from at (place + 1) count)) (flat_map (λ s. shred w s (suc k) (suc (up n d)) (suc k)) ss)) (sym (list_of-slots_of (slots_from to (place + 1) count))) rest))

  null_stored : (w : Way) (r d k : ℕ) → Zip (shred w null r d k) (shred w null r d k)
  unfolding shred
  null_stored (at_leaf n) r d k = (record { repetition = refl; definition = refl; «value» = tt }, tt)
  null_stored (in_list n w) r d k = (record { repetition = refl; definition = refl; «value» = tt }, tt)
  null_stored (in_struct n i w) r d k = (record { repetition = refl; definition = refl; «value» = tt }, tt)

  by_presence : (P : ℕ → Type 0) (w : Way) (s u : Slot) (r d k : ℕ) (b : Bool) (there : List ℕ) → (Each P there → Zip (shred w s r d k) (shred w u r d k)) → Each P (cond b there []) → Zip (shred w (cond b s null) r d k) (shred w (cond b u null) r d k)
  by_presence P w s u r d k true there h e = h e
  by_presence P w s u r d k false there h e = null_stored w r d k

  module _ (values stored : ℕ → Value) where
    abbrev At : ℕ → Type 0
    At i = IsStored t p (values i) (stored i)

    slot_stored : (parts : List Part) (rep def depth i : ℕ) → Each At (slot_places parts i) → Zip (shred (path_way parts) (slot_in (λ j. value (values j)) parts i) rep def depth) (shred (path_way parts) (slot_in (λ j. value (stored j)) parts i) rep def depth)
    unfolding slot_in slot_places shred
    slot_stored [] rep def depth i e = (record { repetition = refl; definition = refl; «value» = tt }, tt)
    slot_stored (leaf_part b m c ∷ parts) rep def depth i e =
        by_presence At (at_leaf b) (value (values i)) (value (stored i)) rep def depth (is_present b m i) (i ∷ []) (λ h. (record { repetition = refl; definition = refl; «value» = h.0 }, tt)) e
    slot_stored (list_part b m os ∷ parts) rep def depth i e =
        by_presence At (in_list b (path_way parts)) _ _ rep def depth (is_present b m i) (gather (slot_places parts) (item_start os i) (item_count os i))
        (items_stored At b (path_way parts) rep def depth (slot_places parts) (slot_in (λ j. value (values j)) parts) (slot_in (λ j. value (stored j)) parts) (λ r j h. slot_stored parts r (suc (up b def)) (suc depth) j h) (item_start os i) (item_count os i)) e
    slot_stored (struct_part b m c ∷ parts) rep def depth i e =
        by_presence At (in_struct b zero (path_way parts)) (fields (slot (slot_in (λ j. value (values j)) parts i) no_slots)) (fields (slot (slot_in (λ j. value (stored j)) parts i) no_slots)) rep def depth (is_present b m i) (slot_places parts i) (λ h. slot_stored parts rep (up b def) depth i h) e

pub columns_are_stored : ColumnsAreStored
unfolding path_slots
columns_are_stored t p values stored nested h =
    let parts = parts_of nested in
    rows_stored t p (At t p values stored) (path_way parts) 0 0 0 (slot_places parts) (slot_in (λ j. value (values j)) parts) (slot_in (λ j. value (stored j)) parts) (λ r i e. slot_stored t p values stored parts r 0 0 i e) 0 (slot_count parts) (recursion_from_All (At t p values stored) (path_places parts) h)
