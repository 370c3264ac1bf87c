-- A path with another mask at its leaf that stands for the same slots.
use Rattle.std.proofs.Common.{◌≡◌, ℕ, zero, suc, ◌+◌, Bool, true, false, true≢false, cond, List, [], ◌∷◌, ◌++◌, length, map, refl, ap, sym, subst, ◌∙◌, arith, All}
use Rattle.std.specs.List.{AllByRecursion as Each}
use Rattle.std.proofs.lemmas.List.Elements.{All-from_recursion, recursion_from_All}
use Rattle.shredding.specs.Along.{IsAlong}
use Rattle.shredding.specs.Parts.{Part, leaf_part, list_part, struct_part, is_present, item_start, item_count, slot_count, slots_from, slot_in, path_slots, path_way, FitTogether, MaskFits}
use Rattle.shredding.specs.Shape.{Way, at_leaf, in_list, in_struct}
use Rattle.shredding.specs.Slot.{Slot, null, items, fields, slot, no_slots, slots_of}
use Rattle.shredding.proofs.Along.{list_of-slots_of}
use Rattle.columns_slots.specs.Tree.{Mask, ArrayTree}
use Rattle.columns_slots.specs.Slots.{tree_len}
use Rattle.levels.specs.Ranges.{leaf_count_or}
use Rattle.nested_paths.specs.PathLeaf.{leaf_mask, is_leaf_optional}
use Rattle.write_places.specs.Places.{gather, slot_places, path_places}
use Rattle.dictionary_pages.specs.Seen.{FitsPart, with_mask}

pub each_left : (P : ℕ → Type 0) (xs ys : List ℕ) → Each P (xs ++ ys) → Each P xs
each_left P [] ys h = tt
each_left P (x ∷ xs) ys h = (h.0, each_left P xs ys h.1)

pub each_right : (P : ℕ → Type 0) (xs ys : List ℕ) → Each P (xs ++ ys) → Each P ys
each_right P [] ys h = h
each_right P (x ∷ xs) ys h = each_right P xs ys h.1

pub each_both : (P : ℕ → Type 0) (xs ys : List ℕ) → Each P xs → Each P ys → Each P (xs ++ ys)
each_both P [] ys h g = g
each_both P (x ∷ xs) ys h g = (h.0, each_both P xs ys h.1 g)

-- ---- what a path reaches at its leaf

module _ (f : ℕ → Slot) where
  along_pieces : (P : ℕ → Type 0) (w : Way) (at : ℕ → Slot) (piece : ℕ → List ℕ) → ((i : ℕ) → IsAlong w (at i) → Each P (piece i)) → (place count : ℕ) → Each (IsAlong w) (slots_from at place count) → Each P (gather piece place count)
  unfolding slots_from gather
  along_pieces P w at piece each place zero h = tt
  along_pieces P w at piece each place (suc count) h = each_both P (piece place) (gather piece (place + 1) count) (each place h.0) (along_pieces P w at piece each (place + 1) count h.1)

  along_places : (parts : List Part) (i : ℕ) → IsAlong (path_way parts) (slot_in f parts i) → Each (λ j. IsAlong (at_leaf (is_leaf_optional parts)) (f j)) (slot_places parts i)
  unfolding slot_in slot_places
  along_places [] i h = tt
  along_places (leaf_part b m c ∷ parts) i h = by (is_present b m i) h
    where
      by : (p : Bool) → IsAlong (at_leaf b) (cond p (f i) null) → Each (λ j. IsAlong (at_leaf b) (f j)) (cond p (i ∷ []) [])
      by true h = (h, tt)
      by false h = tt
  along_places (list_part b m os ∷ parts) i h = by (λ j k. along_places parts j k) (is_present b m i) h
    where
      by : ((j : ℕ) → IsAlong (path_way parts) (slot_in f parts j) → Each (λ j. IsAlong (at_leaf (is_leaf_optional parts)) (f j)) (slot_places parts j)) → (p : Bool) → IsAlong (in_list b (path_way parts)) (cond p (items (slots_of (slots_from (slot_in f parts) (item_start os i) (item_count os i)))) null) → Each (λ j. IsAlong (at_leaf (is_leaf_optional parts)) (f j)) (cond p (gather (slot_places parts) (item_start os i) (item_count os i)) [])
      by beneath true h =
          let ss = slots_from (slot_in f parts) (item_start os i) (item_count os i) in
          along_pieces (λ j. IsAlong (at_leaf (is_leaf_optional parts)) (f j)) (path_way parts) (slot_in f parts) (slot_places parts) beneath (item_start os i) (item_count os i)
          (recursion_from_All (IsAlong (path_way parts)) ss (subst (All (IsAlong (path_way parts))) (list_of-slots_of ss) h))
      by beneath false h = tt
  along_places (struct_part b m c ∷ parts) i h = by (λ e. along_places parts i e) (is_present b m i) h
    where
      by : (IsAlong (path_way parts) (slot_in f parts i) → Each (λ j. IsAlong (at_leaf (is_leaf_optional parts)) (f j)) (slot_places parts i)) → (p : Bool) → IsAlong (in_struct b zero (path_way parts)) (cond p (fields (slot (slot_in f parts i) no_slots)) null) → Each (λ j. IsAlong (at_leaf (is_leaf_optional parts)) (f j)) (cond p (slot_places parts i) [])
      by beneath true h = beneath h
      by beneath false h = tt

  pub path_along_places : (parts : List Part) → All (IsAlong (path_way parts)) (path_slots f parts) → Each (λ j. IsAlong (at_leaf (is_leaf_optional parts)) (f j)) (path_places parts)
  unfolding path_slots
  path_along_places parts h =
      along_pieces (λ j. IsAlong (at_leaf (is_leaf_optional parts)) (f j)) (path_way parts) (slot_in f parts) (slot_places parts) (λ i k. along_places parts i k) 0 (slot_count parts)
      (recursion_from_All (IsAlong (path_way parts)) (path_slots f parts) h)

-- ---- the same slots

module _ (f g : ℕ → Slot) (k : Mask → Mask) (Q P : ℕ → Type 0) where
  -- of a place that is reached where it is there by the mask
  abbrev pub Good : Bool → Mask → Type 0
  Good b m = (j : ℕ) → Q j → is_present b m j ≡ true → (cond (is_present b (k m) j) (g j) null ≡ f j) × (is_present b (k m) j ≡ true → P j)

  -- of any place
  abbrev pub Gap : Bool → Mask → Type 0
  Gap b m = (j : ℕ) → is_present b m j ≡ false → is_present b (k m) j ≡ false

  pieces_same : (G : ℕ → Type 0) (piece more : ℕ → List ℕ) (at to : ℕ → Slot) → ((i : ℕ) → Each G (piece i) → (at i ≡ to i) × Each P (more i)) → (place count : ℕ) → Each G (gather piece place count)
      → (slots_from at place count ≡ slots_from to place count) × Each P (gather more place count)
  unfolding slots_from gather
  pieces_same G piece more at to same place zero h = (refl, tt)
  pieces_same G piece more at to same place (suc count) h =
      let first = same place (each_left G (piece place) (gather piece (place + 1) count) h) in
      let rest = pieces_same G piece more at to same (place + 1) count (each_right G (piece place) (gather piece (place + 1) count) h) in
      (λ i. first.0 i ∷ rest.0 i, each_both P (more place) (gather more (place + 1) count) first.1 rest.1)

  slot_same : (parts : List Part) → Gap (is_leaf_optional parts) (leaf_mask parts) → Good (is_leaf_optional parts) (leaf_mask parts) → (i : ℕ) → Each Q (slot_places parts i)
      → (slot_in g (map (with_mask k) parts) i ≡ slot_in f parts i) × Each P (slot_places (map (with_mask k) parts) i)
  unfolding slot_in slot_places
  slot_same [] gap good i h = (refl, tt)
  slot_same (leaf_part b m c ∷ parts) gap good i h = by (is_present b m i) (is_present b (k m) i) refl refl h
    where
      by : (p q : Bool) → is_present b m i ≡ p → is_present b (k m) i ≡ q → Each Q (cond p (i ∷ []) []) → (cond q (g i) null ≡ cond p (f i) null) × Each P (cond q (i ∷ []) [])
      by true true e d h = let r = good i h.0 e in (ap (λ x. cond x (g i) null) (sym d) ∙ r.0, (r.1 d, tt))
      by true false e d h = let r = good i h.0 e in (ap (λ x. cond x (g i) null) (sym d) ∙ r.0, tt)
      by false true e d h = absurd (true≢false (sym d ∙ gap i e))
      by false false e d h = (refl, tt)
  slot_same (list_part b m os ∷ parts) gap good i h = by (λ j e. slot_same parts gap good j e) (is_present b m i) h
    where
      by : ((j : ℕ) → Each Q (slot_places parts j) → (slot_in g (map (with_mask k) parts) j ≡ slot_in f parts j) × Each P (slot_places (map (with_mask k) parts) j)) → (p : Bool) → Each Q (cond p (gather (slot_places parts) (item_start os i) (item_count os i)) [])
          → (cond p (items (slots_of (slots_from (slot_in g (map (with_mask k) parts)) (item_start os i) (item_count os i)))) null ≡ cond p (items (slots_of (slots_from (slot_in f parts) (item_start os i) (item_count os i)))) null)
          × Each P (cond p (gather (slot_places (map (with_mask k) parts)) (item_start os i) (item_count os i)) [])
      by beneath true h =
          let r = pieces_same Q (slot_places parts) (slot_places (map (with_mask k) parts)) (slot_in g (map (with_mask k) parts)) (slot_in f parts) beneath (item_start os i) (item_count os i) h in
          (ap (λ (ss : List Slot). items (slots_of ss)) r.0, r.1)
      by beneath false h = (refl, tt)
  slot_same (struct_part b m c ∷ parts) gap good i h = by (λ e. slot_same parts gap good i e) (is_present b m i) h
    where
      by : (Each Q (slot_places parts i) → (slot_in g (map (with_mask k) parts) i ≡ slot_in f parts i) × Each P (slot_places (map (with_mask k) parts) i)) → (p : Bool) → Each Q (cond p (slot_places parts i) [])
          → (cond p (fields (slot (slot_in g (map (with_mask k) parts) i) no_slots)) null ≡ cond p (fields (slot (slot_in f parts i) no_slots)) null) × Each P (cond p (slot_places (map (with_mask k) parts) i) [])
      by beneath true h = let r = beneath h in (ap (λ (s : Slot). fields (slot s no_slots)) r.0, r.1)
      by beneath false h = (refl, tt)

  masked_count : (parts : List Part) → slot_count (map (with_mask k) parts) ≡ slot_count parts
  masked_count [] = refl
  masked_count (leaf_part b m c ∷ parts) = refl
  masked_count (list_part b m os ∷ parts) = refl
  masked_count (struct_part b m c ∷ parts) = refl

  pub path_same : (parts : List Part) → Gap (is_leaf_optional parts) (leaf_mask parts) → Good (is_leaf_optional parts) (leaf_mask parts) → Each Q (path_places parts)
      → (path_slots g (map (with_mask k) parts) ≡ path_slots f parts) × Each P (path_places (map (with_mask k) parts))
  unfolding path_slots
  path_same parts gap good h =
      rw (masked_count parts)
      (pieces_same Q (slot_places parts) (slot_places (map (with_mask k) parts)) (slot_in g (map (with_mask k) parts)) (slot_in f parts) (λ j e. slot_same parts gap good j e) 0 (slot_count parts) h)

  pub masked_way : (parts : List Part) → path_way (map (with_mask k) parts) ≡ path_way parts
  masked_way [] = refl
  masked_way (leaf_part b m c ∷ parts) = refl
  masked_way (list_part b m os ∷ parts) = ap (in_list b) (masked_way parts)
  masked_way (struct_part b m c ∷ parts) = ap (in_struct b zero) (masked_way parts)

  pub masked_length : (parts : List Part) → length (map (with_mask k) parts) ≡ length parts
  masked_length [] = refl
  masked_length (p ∷ parts) = ap suc (masked_length parts)

  pub masked_leaf : (parts : List Part) (d : ℕ) → leaf_count_or d (map (with_mask k) parts) ≡ leaf_count_or d parts
  masked_leaf [] d = refl
  masked_leaf (leaf_part b m c ∷ parts) d = masked_leaf parts c
  masked_leaf (list_part b m os ∷ parts) d = masked_leaf parts d
  masked_leaf (struct_part b m c ∷ parts) d = masked_leaf parts d

  pub masked_fits : (parts : List Part) → ((m : Mask) → MaskFits m (leaf_count_or 0 parts) → MaskFits (k m) (leaf_count_or 0 parts)) → FitTogether parts → FitTogether (map (with_mask k) parts)
  masked_fits [] e h = tt
  masked_fits (leaf_part b m c ∷ []) e h = ((e m h.0.0, h.0.1), tt)
  masked_fits (leaf_part b m c ∷ p ∷ parts) e h = absurd (omega (arith, h.0.1))
  masked_fits (list_part b m os ∷ parts) e h = ((h.0.0, masked_count parts ∙ h.0.1, omega (arith, h.0.2, masked_length parts)), masked_fits parts e h.1)
  masked_fits (struct_part b m c ∷ parts) e h = ((h.0.0, masked_count parts ∙ h.0.1, omega (arith, h.0.2, masked_length parts)), masked_fits parts e h.1)

-- the same mask
pub same_mask : (parts : List Part) → map (with_mask (λ m. m)) parts ≡ parts
same_mask [] = refl
same_mask (leaf_part b m c ∷ parts) = ap (λ ps. leaf_part b m c ∷ ps) (same_mask parts)
same_mask (list_part b m os ∷ parts) = ap (λ ps. list_part b m os ∷ ps) (same_mask parts)
same_mask (struct_part b m c ∷ parts) = ap (λ ps. struct_part b m c ∷ ps) (same_mask parts)

-- ---- a leaf of the array's length

parts_fit : (a : ArrayTree) (parts : List Part) → leaf_count_or 0 parts ≡ tree_len a → FitTogether parts → Each (FitsPart a) parts
parts_fit a [] e h = tt
parts_fit a (leaf_part b m c ∷ []) e h = (subst (MaskFits m) e h.0.0, tt)
parts_fit a (leaf_part b m c ∷ p ∷ parts) e h = absurd (omega (arith, h.0.1))
parts_fit a (list_part b m os ∷ parts) e h = (tt, parts_fit a parts e h.1)
parts_fit a (struct_part b m c ∷ parts) e h = (tt, parts_fit a parts e h.1)

pub all_fit : (a : ArrayTree) (parts : List Part) → leaf_count_or 0 parts ≡ tree_len a → FitTogether parts → All (FitsPart a) parts
all_fit a parts e h = All-from_recursion (FitsPart a) parts (parts_fit a parts e h)

-- the leaf's mask is as long as it
pub leaf_mask_fits : (parts : List Part) → FitTogether parts → MaskFits (leaf_mask parts) (leaf_count_or 0 parts)
leaf_mask_fits [] h = tt
leaf_mask_fits (leaf_part b m c ∷ []) h = h.0.0
leaf_mask_fits (leaf_part b m c ∷ p ∷ parts) h = absurd (omega (arith, h.0.1))
leaf_mask_fits (list_part b m os ∷ parts) h = leaf_mask_fits parts h.1
leaf_mask_fits (struct_part b m c ∷ parts) h = leaf_mask_fits parts h.1
