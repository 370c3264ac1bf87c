-- The path whose nulls are those that are seen.
use Rattle.std.proofs.Common.{◌≡◌, ℕ, zero, suc, ◌+◌, ◌-◌, ◌<◌, Bool, true, false, true≢false, ◌&&◌, cond, List, [], ◌∷◌, ◌++◌, length, map, take, get_or, Some, None, refl, ap, sym, subst, ◌∙◌, arith, All}
use Rattle.std.specs.Prelude.{◌||◌, not, slice_index_or}
use Rattle.std.specs.List.{AllByRecursion as Each}
use Rattle.std.proofs.lemmas.List.{get_or-map, length-map, map-append, take_more}
use Rattle.std.proofs.lemmas.List.Elements.{All-from_recursion, All-get_or, All-push, recursion_from_All}
use Rattle.shredding.specs.Along.{IsAlong, along}
use Rattle.shredding.specs.Parts.{Part, IsPath, MaskFits, keeps, path_slots, path_way}
use Rattle.shredding.specs.Shape.{at_leaf}
use Rattle.shredding.specs.Slot.{Slot, null, value, items, fields}
use Rattle.columns_slots.specs.Tree.{Mask, ArrayTree, null_array, leaf_array, list_array, fixed_list_array, struct_array, dictionary_array}
use Rattle.columns_slots.specs.Slots.{tree_len}
use Rattle.levels.specs.declared.nested.Nested.{Nested}
use Rattle.levels.specs.Nested.{part_of}
use Rattle.levels.specs.Ranges.{leaf_count_or}
use Rattle.nested_paths.specs.LeafNulls.{is_value, value_in, value_at}
use Rattle.nested_paths.specs.PathLeaf.{leaf_mask, is_leaf_optional}
use Rattle.nested_paths.specs.Seen.{leaf_slot}
use Rattle.write_places.specs.Places.{gather, range, path_places}
use Rattle.write_values.proofs.StringPlaces.{range_more}
use Rattle.dictionary_pages.specs.Seen.{FitsPart, IsSeenPath, Looks, seen_at, seen_mask, seen_parts, with_mask}
use Rattle.dictionary_pages.proofs.Merged.{Good, Gap, leaf_mask_fits, masked_fits, masked_leaf, masked_length, masked_way, path_along_places, path_same, same_mask}

-- ---- values and nulls of a leaf array

entry_or_null : (s : Slot) → is_value (along (at_leaf true) s) ≡ false → along (at_leaf true) s ≡ null
unfolding along
entry_or_null null h = refl
entry_or_null (value v) h = absurd (true≢false h)
entry_or_null (items ss) h = refl
entry_or_null (fields ss) h = refl

pub value_or_null : (a : ArrayTree) (i : ℕ) → is_value (leaf_slot a i) ≡ false → leaf_slot a i ≡ null
value_or_null (null_array t n) i h = refl
value_or_null (leaf_array t vs m) i h = absurd (true≢false h)
value_or_null (list_array t os c m) i h = refl
value_or_null (fixed_list_array t w n c m) i h = refl
value_or_null (struct_array t cs m) i h = refl
value_or_null (dictionary_array t ks c m) i h = entry_or_null _ h

pub value_back : (s : Slot) → is_value s ≡ true → value (value_in s) ≡ s
value_back null h = absurd (true≢false (sym h))
value_back (value v) h = refl
value_back (items ss) h = absurd (true≢false (sym h))
value_back (fields ss) h = absurd (true≢false (sym h))

value_along : (s : Slot) → IsAlong (at_leaf false) s → is_value s ≡ true
value_along null h = absurd (true≢false (sym h))
value_along (value v) h = refl
value_along (items ss) h = absurd h
value_along (fields ss) h = absurd h

-- ---- the mask

bit_at_range : (f : ℕ → Bool) (d : Bool) (from n i : ℕ) → i < n → slice_index_or (map f (range from n)) i d ≡ f (from + i)
unfolding gather
bit_at_range f d from zero i h = absurd (omega (arith, h))
bit_at_range f d from (suc n) zero h = let e : from ≡ from + zero = omega arith in ap f e
bit_at_range f d from (suc n) (suc i) h = let e : from + 1 + i ≡ from + suc i = omega arith in bit_at_range f d (from + 1) n i (omega (arith, h)) ∙ ap f e

length_range : (from n : ℕ) → length (range from n) ≡ n
unfolding gather
length_range from zero = refl
length_range from (suc n) = ap suc (length_range (from + 1) n)

pub seen_fits : (a : ArrayTree) (m : Mask) → MaskFits (seen_mask a m) (tree_len a)
seen_fits a m = length-map (range 0 (tree_len a)) (seen_at a m) ∙ length_range 0 (tree_len a)

seen_keeps : (a : ArrayTree) (m : Mask) (i : ℕ) → i < tree_len a → keeps (seen_mask a m) i ≡ seen_at a m i
seen_keeps a m i h = let e : 0 + i ≡ i = omega arith in bit_at_range (seen_at a m) true 0 (tree_len a) i h ∙ ap (seen_at a m) e

-- a position past a mask is kept
kept_past : (bits : List Bool) (i : ℕ) → slice_index_or bits i true ≡ false → i < length bits
kept_past [] i h = absurd (true≢false h)
kept_past (b ∷ bits) zero h = omega arith
kept_past (b ∷ bits) (suc i) h = omega (arith, kept_past bits i h)

unkept : (m : Mask) (n i : ℕ) → MaskFits m n → keeps m i ≡ false → i < n
unkept None n i h e = absurd (true≢false e)
unkept (Some bits) n i h e = omega (arith, h, kept_past bits i e)

seen_gap : (a : ArrayTree) (m : Mask) (b : Bool) → MaskFits m (tree_len a) → (Q P : ℕ → Type 0) → Gap (leaf_slot a) (λ i. value (value_at a i)) (seen_mask a) Q P b m
seen_gap a m true h Q P i e = seen_keeps a m i (unkept m (tree_len a) i h e) ∙ ap (λ (b : Bool). b && is_value (leaf_slot a i)) e
seen_gap a m false h Q P i e = absurd (true≢false e)

-- ---- the paths

-- what the new path reaches
abbrev Reached : ArrayTree → ℕ → Type 0
Reached a i = (i < tree_len a) × (is_value (leaf_slot a i) ≡ true)

each_first : (P Q : ℕ → Type 0) (xs : List ℕ) → Each (λ i. P i × Q i) xs → Each P xs
each_first P Q [] h = tt
each_first P Q (x ∷ xs) h = (h.0.0, each_first P Q xs h.1)

each_second : (P Q : ℕ → Type 0) (xs : List ℕ) → Each (λ i. P i × Q i) xs → Each Q xs
each_second P Q [] h = tt
each_second P Q (x ∷ xs) h = (h.0.1, each_second P Q xs h.1)

each_two : (P Q R : ℕ → Type 0) → ((i : ℕ) → P i → Q i → R i) → (xs : List ℕ) → Each P xs → Each Q xs → Each R xs
each_two P Q R f [] h k = tt
each_two P Q R f (x ∷ xs) h k = (f x h.0 k.0, each_two P Q R f xs h.1 k.1)

module _ (a : ArrayTree) where
  abbrev f : ℕ → Slot
  f = leaf_slot a

  abbrev g : ℕ → Slot
  g i = value (value_at a i)

  -- what the old path reaches, whose leaf is optional or not
  abbrev Reaches : Bool → ℕ → Type 0
  Reaches b i = (i < tree_len a) × IsAlong (at_leaf b) (f i)

  good_merged : (b : Bool) (m : Mask) → Good f g (seen_mask a) (Reaches b) (Reached a) b m
  good_merged false m i h p = let v = value_along (f i) h.1 in (value_back (f i) v, λ e. (h.0, v))
  good_merged true m i h p =
      let is : keeps (seen_mask a m) i ≡ is_value (f i) = seen_keeps a m i h.0 ∙ ap (λ (b : Bool). b && is_value (f i)) p in
      (by (is_value (f i)) refl is, λ e. (h.0, sym is ∙ e))
    where
      by : (b : Bool) → is_value (f i) ≡ b → keeps (seen_mask a m) i ≡ is_value (f i) → cond (keeps (seen_mask a m) i) (g i) null ≡ f i
      by true v is = ap (λ b. cond b (g i) null) (is ∙ v) ∙ value_back (f i) v
      by false v is = ap (λ b. cond b (g i) null) (is ∙ v) ∙ sym (value_or_null a i v)

  good_copied : (b : Bool) (m : Mask) → Good f g (λ m. m) (Reached a) (Reached a) b m
  good_copied b m i h p = (ap (λ b. cond b (g i) null) p ∙ value_back (f i) h.1, λ e. h)

  module _ (k : Mask → Mask) (Q : ℕ → Type 0) (parts : List Part) (well : IsPath parts) where
    made : ((m : Mask) → MaskFits m (leaf_count_or 0 parts) → MaskFits (k m) (leaf_count_or 0 parts)) → Gap f g k Q (Reached a) (is_leaf_optional parts) (leaf_mask parts)
        → Good f g k Q (Reached a) (is_leaf_optional parts) (leaf_mask parts) → Each Q (path_places parts) → IsSeenPath a parts (map (with_mask k) parts)
    made fits gap good each =
        let same = path_same f g k Q (Reached a) parts gap good each in
        let places = path_places (map (with_mask k) parts) in
        record {
          well = record { some = omega (arith, well.some, masked_length f g k Q (Reached a) parts); fits = masked_fits f g k Q (Reached a) parts fits well.fits };
          few = masked_length f g k Q (Reached a) parts;
          way = masked_way f g k Q (Reached a) parts;
          leaf = masked_leaf f g k Q (Reached a) parts 0;
          slots = same.0;
          reached = All-from_recursion (λ i. i < tree_len a) places (each_first (λ i. i < tree_len a) (λ i. is_value (leaf_slot a i) ≡ true) places same.1);
          values = All-from_recursion (λ i. is_value (leaf_slot a i) ≡ true) places (each_second (λ i. i < tree_len a) (λ i. is_value (leaf_slot a i) ≡ true) places same.1);
        }

  module _ (parts : List Part) (well : IsPath parts) (within : All (λ i. i < tree_len a) (path_places parts)) where
    pub merged_is_seen : tree_len a ≡ leaf_count_or 0 parts → All (IsAlong (path_way parts)) (path_slots (leaf_slot a) parts) → IsSeenPath a parts (seen_parts a parts)
    merged_is_seen leaf along =
        let b = is_leaf_optional parts in
        let places = path_places parts in
        made (seen_mask a) (Reaches b) parts well (λ m h. subst (MaskFits (seen_mask a m)) leaf (seen_fits a m)) (seen_gap a (leaf_mask parts) b (subst (MaskFits (leaf_mask parts)) (sym leaf) (leaf_mask_fits parts well.fits)) (Reaches b) (Reached a)) (good_merged b (leaf_mask parts))
        (each_two (λ i. i < tree_len a) (λ i. IsAlong (at_leaf b) (leaf_slot a i)) (Reaches b) (λ i h k. (h, k)) places (recursion_from_All (λ i. i < tree_len a) places within) (path_along_places (leaf_slot a) parts along))

    pub copied_is_seen : All (λ i. is_value (leaf_slot a i) ≡ true) (path_places parts) → IsSeenPath a parts parts
    copied_is_seen values =
        let places = path_places parts in
        subst (IsSeenPath a parts) (same_mask parts)
        (made (λ m. m) (Reached a) parts well (λ m h. h) (λ i e. e) (good_copied (is_leaf_optional parts) (leaf_mask parts))
        (each_two (λ i. i < tree_len a) (λ i. is_value (leaf_slot a i) ≡ true) (Reached a) (λ i h k. (h, k)) places (recursion_from_All (λ i. i < tree_len a) places within) (recursion_from_All (λ i. is_value (leaf_slot a i) ≡ true) places values)))

-- ---- the code's loops

pub bits_none : (f : ℕ → Bool) → [] ≡ map f (range 0 0)
unfolding gather
bits_none f = refl

pub bits_more : (f : ℕ → Bool) (i : ℕ) → map f (range 0 (i + 1)) ≡ map f (range 0 i) ++ (f i ∷ [])
bits_more f i =
    let a : i + 1 - 0 ≡ i + 1 = omega arith in
    let b : i - 0 ≡ i = omega arith in
    ap (λ (k : ℕ). map f (range 0 k)) (sym a) ∙ (ap (map f) (range_more 0 i (omega arith)) ∙ (map-append f (range 0 (i - 0)) (i ∷ []) ∙ ap (λ (k : ℕ). map f (range 0 k) ++ (f i ∷ [])) b))

pub parts_more : (k : Mask → Mask) (xs : List Nested) (i : ℕ) (done : List Nested) (part made : Nested) → i < length xs → part ≡ get_or xs i part → map part_of done ≡ map (with_mask k) (map part_of (take i xs)) → part_of made ≡ with_mask k (part_of part)
    → map part_of (done ++ (made ∷ [])) ≡ map (with_mask k) (map part_of (take (i + 1) xs))
parts_more k xs i done part made low is h e =
    map-append part_of done (made ∷ [])
    ∙ (ap (λ (ps : List Part). ps ++ (part_of made ∷ [])) h
    ∙ (ap (λ (p : Part). map (with_mask k) (map part_of (take i xs)) ++ (p ∷ [])) e
    ∙ sym (ap (λ (ys : List Nested). map (with_mask k) (map part_of ys)) (take_more xs i part low ∙ ap (λ (y : Nested). take i xs ++ (y ∷ [])) (sym is)) ∙ (ap (map (with_mask k)) (map-append part_of (take i xs) (part ∷ [])) ∙ map-append (with_mask k) (map part_of (take i xs)) (part_of part ∷ [])))))

pub fits_at : (a : ArrayTree) (xs : List Nested) (i : ℕ) (part : Nested) → i < length xs → part ≡ get_or xs i part → All (FitsPart a) (map part_of xs) → FitsPart a (part_of part)
fits_at a xs i part low is h =
    let n : i < length (map part_of xs) = omega (arith, low, length-map xs part_of) in
    let e : get_or (map part_of xs) i (part_of part) ≡ part_of part = get_or-map part_of xs i part (part_of part) low ∙ ap part_of (sym is) in
    subst (FitsPart a) e (All-get_or (FitsPart a) (map part_of xs) i (part_of part) n h)

pub looks_more : (a : ArrayTree) (places : List ℕ) (i : ℕ) (old mid new v : Bool) → i < tree_len a → new ≡ (mid || not v) → v ≡ is_value (leaf_slot a i) → Looks a places old mid → Looks a (places ++ (i ∷ [])) old new
looks_more a places i old mid new v low e is h = record {
  within = All-push (λ j. j < tree_len a) places i h.within low;
  values = λ n. by mid v (sym e ∙ n) is h.values;
}
  where
    by : (m v : Bool) → (m || not v) ≡ false → v ≡ is_value (leaf_slot a i) → (m ≡ false → (old ≡ false) × All (λ j. is_value (leaf_slot a j) ≡ true) places) → (old ≡ false) × All (λ j. is_value (leaf_slot a j) ≡ true) (places ++ (i ∷ []))
    by false true n is h = let r = h refl in (r.0, All-push (λ j. is_value (leaf_slot a j) ≡ true) places i r.1 (sym is))
    by false false n is h = absurd (true≢false n)
    by true v n is h = absurd (true≢false n)
