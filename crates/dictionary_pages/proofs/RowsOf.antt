-- Rows whose leaf reaches values of a type, and nulls only where they are allowed.
use Rattle.std.proofs.Common.{◌≡◌, ℕ, zero, suc, ◌+◌, ◌<◌, Bool, true, false, true≢false, cond, Option, List, [], ◌∷◌, ◌++◌, length, flat_map, refl, sym, subst, arith, All}
use Rattle.std.specs.List.{AllByRecursion as Each}
use Rattle.std.proofs.lemmas.List.Elements.{All-from_recursion, filter_map-append}
use Rattle.shredding.specs.Along.{IsAlong}
use Rattle.shredding.specs.Parts.{Part, leaf_part, list_part, struct_part, IsPath, FitTogether, is_present, item_start, item_count, slot_count, slots_from, slot_in, path_slots, path_way}
use Rattle.shredding.specs.Shape.{Way, at_leaf, in_list, in_struct}
use Rattle.shredding.specs.Shred.{Triple, column, shred, up}
use Rattle.shredding.specs.Slot.{Value, Slot, null, value, items, fields, slot, no_slots, slots_of, list_of}
use Rattle.shredding.proofs.Along.{list_of-slots_of}
use Rattle.nested_paths.specs.PathLeaf.{is_leaf_optional}
use Rattle.pq_files.specs.Page.{values_in}
use Rattle.write_places.specs.Places.{gather, slot_places, path_places}
use Rattle.dictionary_pages.proofs.Merged.{each_left, each_right}

module _ (f : ℕ → Slot) where
  -- ---- nulls

  pieces_along : (P : ℕ → Type 0) (w : Way) (at : ℕ → Slot) (piece : ℕ → List ℕ) → ((i : ℕ) → Each P (piece i) → IsAlong w (at i)) → (place count : ℕ) → Each P (gather piece place count) → Each (IsAlong w) (slots_from at place count)
  unfolding slots_from gather
  pieces_along P w at piece each place zero h = tt
  pieces_along P w at piece each place (suc count) h =
      (each place (each_left P (piece place) (gather piece (place + 1) count) h), pieces_along P w at piece each (place + 1) count (each_right P (piece place) (gather piece (place + 1) count) h))

  abbrev There : Bool → ℕ → Type 0
  There b j = IsAlong (at_leaf b) (f j)

  -- a part that is not there is an optional one
  missing : (w : Way) (b p : Bool) (there : List ℕ) (s : Slot) (P : ℕ → Type 0) → (p ≡ false → IsAlong w null) → (Each P there → IsAlong w s) → Each P (cond p there []) → IsAlong w (cond p s null)
  missing w b true there s P n e h = e h
  missing w b false there s P n e h = n refl

  optional : (b : Bool) (m : Option (List Bool)) (i : ℕ) → is_present b m i ≡ false → b ≡ true
  optional true m i e = refl
  optional false m i e = absurd (true≢false e)

  slot_along : (parts : List Part) → 0 < length parts → FitTogether parts → (i : ℕ) → Each (There (is_leaf_optional parts)) (slot_places parts i) → IsAlong (path_way parts) (slot_in f parts i)
  unfolding slot_in slot_places
  slot_along [] some fits i h = absurd (omega (arith, some))
  slot_along (leaf_part b m c ∷ parts) some fits i h = missing (at_leaf b) b (is_present b m i) (i ∷ []) (f i) (There b) (λ e. optional b m i e) (λ h. h.0) h
  slot_along (list_part b m os ∷ parts) some fits i h =
      let ss = slots_from (slot_in f parts) (item_start os i) (item_count os i) in
      missing (in_list b (path_way parts)) b (is_present b m i) (gather (slot_places parts) (item_start os i) (item_count os i)) (items (slots_of ss)) (There (is_leaf_optional parts)) (λ e. optional b m i e)
      (λ h. subst (All (IsAlong (path_way parts))) (sym (list_of-slots_of ss)) (All-from_recursion (IsAlong (path_way parts)) ss (pieces_along (There (is_leaf_optional parts)) (path_way parts) (slot_in f parts) (slot_places parts) (λ j k. slot_along parts fits.0.2 fits.1 j k) (item_start os i) (item_count os i) h))) h
  slot_along (struct_part b m c ∷ parts) some fits i h =
      missing (in_struct b zero (path_way parts)) b (is_present b m i) (slot_places parts i) (fields (slot (slot_in f parts i) no_slots)) (There (is_leaf_optional parts)) (λ e. optional b m i e) (λ h. slot_along parts fits.0.2 fits.1 i h) h

  pub rows_along : (parts : List Part) → IsPath parts → Each (There (is_leaf_optional parts)) (path_places parts) → All (IsAlong (path_way parts)) (path_slots f parts)
  unfolding path_slots
  rows_along parts well h =
      All-from_recursion (IsAlong (path_way parts)) (path_slots f parts)
      (pieces_along (There (is_leaf_optional parts)) (path_way parts) (slot_in f parts) (slot_places parts) (λ i k. slot_along parts well.some well.fits i k) 0 (slot_count parts) h)

  -- ---- values

  module _ (P : Value → Type 0) where
    abbrev pub Gives : ℕ → Type 0
    Gives j = (v : Value) → f j ≡ value v → P v

    values_both : (xs ys : List Triple) → Each P (values_in xs) → Each P (values_in ys) → Each P (values_in (xs ++ ys))
    values_both xs ys h g = subst (Each P) (sym (filter_map-append (λ t. t.value) xs ys)) (both (values_in xs) (values_in ys) h g)
      where
        both : (us vs : List Value) → Each P us → Each P vs → Each P (us ++ vs)
        both [] vs h g = g
        both (u ∷ us) vs h g = (h.0, both us vs h.1 g)

    null_gives : (w : Way) (r d k : ℕ) → Each P (values_in (shred w null r d k))
    unfolding shred
    null_gives (at_leaf n) r d k = tt
    null_gives (in_list n w) r d k = tt
    null_gives (in_struct n i w) r d k = tt

    leaf_gives : (n : Bool) (s : Slot) (r d k : ℕ) → ((v : Value) → s ≡ value v → P v) → Each P (values_in (shred (at_leaf n) s r d k))
    unfolding shred
    leaf_gives n null r d k h = tt
    leaf_gives n (value v) r d k h = (h v refl, tt)
    leaf_gives n (items ss) r d k h = tt
    leaf_gives n (fields ss) r d k h = tt

    rows_give : (w : Way) (d k r : ℕ) (piece : ℕ → List ℕ) (at : ℕ → Slot) → ((rep i : ℕ) → Each Gives (piece i) → Each P (values_in (shred w (at i) rep d k))) → (place count : ℕ) → Each Gives (gather piece place count) → Each P (values_in (flat_map (λ s. shred w s r d k) (slots_from at place count)))
    unfolding slots_from gather
    rows_give w d k r piece at each place zero h = tt
    rows_give w d k r piece at each place (suc count) h =
        values_both (shred w (at place) r d k) (flat_map (λ s. shred w s r d k) (slots_from at (place + 1) count)) (each r place (each_left Gives (piece place) (gather piece (place + 1) count) h)) (rows_give w d k r piece at each (place + 1) count (each_right Gives (piece place) (gather piece (place + 1) count) h))

    items_give : (n : Bool) (w : Way) (r d k : ℕ) (piece : ℕ → List ℕ) (at : ℕ → Slot) → ((rep i : ℕ) → Each Gives (piece i) → Each P (values_in (shred w (at i) rep (suc (up n d)) (suc k)))) → (place count : ℕ) → Each Gives (gather piece place count) → Each P (values_in (shred (in_list n w) (items (slots_of (slots_from at place count))) r d k))
    unfolding shred slots_from gather
    items_give n w r d k piece at each place zero h = tt
    items_give n w r d k piece at each place (suc count) h =
        let others = slots_from at (place + 1) count in
        values_both (shred w (at place) r (suc (up n d)) (suc k)) (flat_map (λ t. shred w t (suc k) (suc (up n d)) (suc k)) (list_of (slots_of others))) (each r place (each_left Gives (piece place) (gather piece (place + 1) count) h))
        (subst (λ (ss : List Slot). Each P (values_in (flat_map (λ t. shred w t (suc k) (suc (up n d)) (suc k)) ss))) (sym (list_of-slots_of others)) (rows_give w (suc (up n d)) (suc k) (suc k) piece at each (place + 1) count (each_right Gives (piece place) (gather piece (place + 1) count) h)))

    by_presence : (w : Way) (s : Slot) (r d k : ℕ) (b : Bool) (there : List ℕ) → (Each Gives there → Each P (values_in (shred w s r d k))) → Each Gives (cond b there []) → Each P (values_in (shred w (cond b s null) r d k))
    by_presence w s r d k true there e h = e h
    by_presence w s r d k false there e h = null_gives w r d k

    slot_gives : (parts : List Part) (r d k i : ℕ) → Each Gives (slot_places parts i) → Each P (values_in (shred (path_way parts) (slot_in f parts i) r d k))
    unfolding slot_in slot_places shred
    slot_gives [] r d k i h = tt
    slot_gives (leaf_part b m c ∷ parts) r d k i h = by_presence (at_leaf b) (f i) r d k (is_present b m i) (i ∷ []) (λ h. leaf_gives b (f i) r d k h.0) h
    slot_gives (list_part b m os ∷ parts) r d k i h =
        by_presence (in_list b (path_way parts)) (items (slots_of (slots_from (slot_in f parts) (item_start os i) (item_count os i)))) r d k (is_present b m i) (gather (slot_places parts) (item_start os i) (item_count os i))
        (λ h. items_give b (path_way parts) r d k (slot_places parts) (slot_in f parts) (λ rep j e. slot_gives parts rep (suc (up b d)) (suc k) j e) (item_start os i) (item_count os i) h) h
    slot_gives (struct_part b m c ∷ parts) r d k i h =
        by_presence (in_struct b zero (path_way parts)) (fields (slot (slot_in f parts i) no_slots)) r d k (is_present b m i) (slot_places parts i) (λ h. slot_gives parts r (up b d) k i h) h

    pub rows_give_values : (parts : List Part) → Each Gives (path_places parts) → All P (values_in (column (path_way parts) (path_slots f parts)))
    unfolding path_slots
    rows_give_values parts h =
        All-from_recursion P (values_in (column (path_way parts) (path_slots f parts)))
        (rows_give (path_way parts) 0 0 0 (slot_places parts) (slot_in f parts) (λ r i e. slot_gives parts r 0 0 i e) 0 (slot_count parts) h)
