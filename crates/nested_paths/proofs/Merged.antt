-- A path whose leaf's mask has the nulls of its leaf array stands for the same slots.
use Rattle.std.proofs.Common.{◌≡◌, ◌⊎◌, inl, inr, ℕ, zero, suc, ◌+◌, ◌-◌, ◌≤◌, ◌<◌, Bool, true, false, ◌&&◌, cond, List, [], ◌∷◌, length, map, take, drop, refl, ap, sym, subst, ◌∙◌, true≢false, arith}
use Rattle.std.specs.Prelude.{slice_index, All}
use Rattle.std.specs.List.{AllByRecursion as Each}
use Rattle.std.proofs.lemmas.List.Elements.{recursion_from_All, All-from_recursion}
use Rattle.shredding.specs.Along.{IsAlong, along, thin}
use Rattle.shredding.specs.Parts.{Part, leaf_part, list_part, struct_part, keeps, is_present, MaskFits, slot_count, slots_from, path_slots, path_way}
use Rattle.shredding.specs.Shape.{Way, at_leaf, in_list, in_struct}
use Rattle.shredding.specs.Shred.{column}
use Rattle.shredding.specs.Slot.{Slot, null, value, items, fields, no_slots, slot, list_of, slots_of, slot_at}
use Rattle.shredding.proofs.Along.{list_of-slots_of, seen_along}
use Rattle.columns_core.proofs.Cuts.{map_cut}
use Rattle.columns_slots.specs.Tree.{Mask, ArrayTree, null_array, leaf_array, list_array, fixed_list_array, struct_array, dictionary_array}
use Rattle.levels.specs.InBounds.{AreWithin, IsInBounds, item_end, bounded_slot, bounded_slots}
use Rattle.levels.specs.Ranges.{leaf_count_or}
use Rattle.levels.proofs.Rising.{rising}
use Rattle.nested_slice.specs.CutPath.{cut_parts, leaf_rows, AreRising}
use Rattle.nested_slice.proofs.Rows.{cuts_are_rows}
use Rattle.nested_slice.proofs.Tables.{same_table}
use Rattle.nested_paths.specs.PathLeaf.{leaf_mask, is_leaf_optional}
use Rattle.nested_paths.specs.LeafNulls.{with_leaf_mask, is_value, value_in, value_at, MergesNulls, MergedPathsHaveColumns}
use Rattle.nested_paths.specs.Seen.{leaf_slot, IsSeen}

-- ---- slots of a leaf array

entry_or_null : (s : Slot) → is_value (along (at_leaf true) s) ≡ false → along (at_leaf true) s ≡ null
unfolding along
entry_or_null null h = refl
entry_or_null (value v) h = absurd (true≢false h)
entry_or_null (items ss) h = refl
entry_or_null (fields ss) h = refl

-- where there is no value, there is null
value_or_null : (a : ArrayTree) (i : ℕ) → is_value (leaf_slot a i) ≡ false → leaf_slot a i ≡ null
value_or_null (null_array t n) i h = refl
value_or_null (leaf_array t vs m) i h = absurd (true≢false h)
value_or_null (list_array t os c m) i h = refl
value_or_null (fixed_list_array t w n c m) i h = refl
value_or_null (struct_array t cs m) i h = refl
value_or_null (dictionary_array t ks c m) i h = entry_or_null _ h

value_back : (s : Slot) → is_value s ≡ true → value (value_in s) ≡ s
value_back null h = absurd (true≢false (sym h))
value_back (value v) h = refl
value_back (items ss) h = absurd (true≢false (sym h))
value_back (fields ss) h = absurd (true≢false (sym h))

-- along a required leaf there is a value
value_along : (s : Slot) → IsAlong (at_leaf false) s → is_value s ≡ true
value_along null h = absurd (true≢false (sym h))
value_along (value v) h = refl
value_along (items ss) h = absurd h
value_along (fields ss) h = absurd h

merged_slot : (a : ArrayTree) (i : ℕ) (old new : Bool) → new ≡ (old && is_value (leaf_slot a i)) → cond new (value (value_at a i)) null ≡ cond old (leaf_slot a i) null
merged_slot a i false new e = ap (λ b. cond b (value (value_at a i)) null) e
merged_slot a i true new e = by (is_value (leaf_slot a i)) refl
  where
    by : (b : Bool) → is_value (leaf_slot a i) ≡ b → cond new (value (value_at a i)) null ≡ leaf_slot a i
    by true is = ap (λ b. cond b (value (value_at a i)) null) (e ∙ is) ∙ value_back (leaf_slot a i) is
    by false is = ap (λ b. cond b (value (value_at a i)) null) (e ∙ is) ∙ sym (value_or_null a i is)

-- ---- a required leaf

module _ (f g : ℕ → Slot) where
  along_table : (w : Way) (a n : ℕ) → ((i : ℕ) → IsAlong w (f i) → g i ≡ f i) → Each (IsAlong w) (slots_from f a n) → slots_from g a n ≡ slots_from f a n
  unfolding slots_from
  along_table w a zero e h = refl
  along_table w a (suc n) e h = rw (e a h.0, along_table w (a + 1) n e h.1) refl

  along_items : (w : Way) (b p : Bool) (a n : ℕ) → ((i : ℕ) → IsAlong w (f i) → g i ≡ f i) → IsAlong (in_list b w) (cond p (items (slots_of (slots_from f a n))) null)
      → cond p (items (slots_of (slots_from g a n))) null ≡ cond p (items (slots_of (slots_from f a n))) null
  along_items w b true a n e h =
      let each : Each (IsAlong w) (slots_from f a n) = recursion_from_All (IsAlong w) (slots_from f a n) (subst (All (IsAlong w)) (list_of-slots_of (slots_from f a n)) h) in
      ap (λ ss. items (slots_of ss)) (along_table w a n e each)
  along_items w b false a n e h = refl

  along_field : (w : Way) (b p : Bool) (i : ℕ) → (IsAlong w (f i) → g i ≡ f i) → IsAlong (in_struct b zero w) (cond p (fields (slot (f i) no_slots)) null)
      → cond p (fields (slot (g i) no_slots)) null ≡ cond p (fields (slot (f i) no_slots)) null
  along_field w b true i e h = ap (λ s. fields (slot s no_slots)) (e h)
  along_field w b false i e h = refl

required_slot : (f g : ℕ → Slot) → ((i : ℕ) → is_value (f i) ≡ true → g i ≡ f i) → (parts : List Part) → is_leaf_optional parts ≡ false → (i : ℕ) → IsAlong (path_way parts) (bounded_slot f parts i)
    → bounded_slot g parts i ≡ bounded_slot f parts i
unfolding bounded_slot
required_slot f g e [] r i h = refl
required_slot f g e (leaf_part true m k ∷ parts) r i h = absurd (true≢false r)
required_slot f g e (leaf_part false m k ∷ parts) r i h = e i (value_along (f i) h)
required_slot f g e (list_part b m os ∷ parts) r i h =
    along_items (bounded_slot f parts) (bounded_slot g parts) (path_way parts) b (is_present b m i) (slice_index os i) (slice_index os (i + 1) - slice_index os i) (required_slot f g e parts r) h
required_slot f g e (struct_part b m k ∷ parts) r i h =
    along_field (bounded_slot f parts) (bounded_slot g parts) (path_way parts) b (is_present b m i) i (required_slot f g e parts r i) h

-- ---- an optional leaf

optional_slot : (f g : ℕ → Slot) (k : Mask) (parts : List Part) → is_leaf_optional parts ≡ true → AreWithin parts → AreRising parts
    → ((i : ℕ) → i < leaf_count_or 0 parts → cond (keeps k i) (g i) null ≡ cond (keeps (leaf_mask parts) i) (f i) null)
    → (i : ℕ) → i < slot_count parts → bounded_slot g (with_leaf_mask k parts) i ≡ bounded_slot f parts i
unfolding bounded_slot
optional_slot f g k [] o w r e i l = refl
optional_slot f g k (leaf_part true m c ∷ []) o w r e i l = e i l
optional_slot f g k (leaf_part true m c ∷ p ∷ parts) o w r e i l = absurd (omega (arith, w.0.1))
optional_slot f g k (leaf_part false m c ∷ parts) o w r e i l = absurd (true≢false (sym o))
optional_slot f g k (list_part b m os ∷ parts) o w r e i l =
    let end : slice_index os (i + 1) ≤ item_end os = rising os (i + 1) (length os - 1) r.0 (omega (arith, l)) (omega (arith, l)) in
    ap (λ ss. cond (is_present b m i) (items (slots_of ss)) null)
    (same_table (bounded_slot g (with_leaf_mask k parts)) (bounded_slot f parts) (slice_index os i) (slice_index os i) (slice_index os (i + 1) - slice_index os i)
    (λ j h. optional_slot f g k parts o w.1 r.1 e (slice_index os i + j) (omega (arith, h, end, w.0.1))))
optional_slot f g k (struct_part b m c ∷ parts) o w r e i l =
    ap (λ s. cond (is_present b m i) (fields (slot s no_slots)) null) (optional_slot f g k parts o w.1 r.1 e i (omega (arith, l, w.0.1)))

-- ---- the path with another mask

module _ (k : Mask) where
  pub masked_count : (parts : List Part) → slot_count (with_leaf_mask k parts) ≡ slot_count parts
  masked_count [] = refl
  masked_count (leaf_part b m c ∷ parts) = refl
  masked_count (list_part b m os ∷ parts) = refl
  masked_count (struct_part b m c ∷ parts) = refl

  pub masked_length : (parts : List Part) → length (with_leaf_mask k parts) ≡ length parts
  masked_length [] = refl
  masked_length (leaf_part b m c ∷ parts) = refl
  masked_length (list_part b m os ∷ parts) = omega (arith, masked_length parts)
  masked_length (struct_part b m c ∷ parts) = omega (arith, masked_length parts)

  pub masked_way : (parts : List Part) → path_way (with_leaf_mask k parts) ≡ path_way parts
  masked_way [] = refl
  masked_way (leaf_part b m c ∷ parts) = refl
  masked_way (list_part b m os ∷ parts) = ap (in_list b) (masked_way parts)
  masked_way (struct_part b m c ∷ parts) = ap (in_struct b zero) (masked_way parts)

  pub masked_leaf_count : (parts : List Part) (d : ℕ) → leaf_count_or d (with_leaf_mask k parts) ≡ leaf_count_or d parts
  masked_leaf_count [] d = refl
  masked_leaf_count (leaf_part b m c ∷ parts) d = refl
  masked_leaf_count (list_part b m os ∷ parts) d = masked_leaf_count parts d
  masked_leaf_count (struct_part b m c ∷ parts) d = masked_leaf_count parts d

  pub masked_rising : (parts : List Part) → AreRising parts → AreRising (with_leaf_mask k parts)
  masked_rising [] r = r
  masked_rising (leaf_part b m c ∷ parts) r = r
  masked_rising (list_part b m os ∷ parts) r = (r.0, masked_rising parts r.1)
  masked_rising (struct_part b m c ∷ parts) r = (r.0, masked_rising parts r.1)

  pub masked_within : (parts : List Part) → MaskFits k (leaf_count_or 0 parts) → AreWithin parts → AreWithin (with_leaf_mask k parts)
  masked_within [] h w = w
  masked_within (leaf_part b m c ∷ []) h w = ((h, w.0.1), w.1)
  masked_within (leaf_part b m c ∷ p ∷ parts) h w = absurd (omega (arith, w.0.1))
  masked_within (list_part b m os ∷ parts) h w =
      ((w.0.0, omega (arith, masked_count parts, w.0.1), omega (arith, masked_length parts, w.0.2)), masked_within parts h w.1)
  masked_within (struct_part b m c ∷ parts) h w =
      ((w.0.0, masked_count parts ∙ w.0.1, omega (arith, masked_length parts, w.0.2)), masked_within parts h w.1)

  pub masked_in_bounds : (parts : List Part) → MaskFits k (leaf_count_or 0 parts) → IsInBounds parts → IsInBounds (with_leaf_mask k parts)
  masked_in_bounds parts h b = record { some = omega (arith, masked_length parts, b.some); fits = masked_within parts h b.fits }

-- ---- all slots

all_along : (w : Way) → ((s : Slot) → IsAlong w s → IsAlong (thin w) (along w s)) → (xs : List Slot) → All (IsAlong w) xs → All (IsAlong (thin w)) (map (along w) xs)
all_along w f xs h = All-from_recursion (IsAlong (thin w)) (map (along w) xs) (each xs (recursion_from_All (IsAlong w) xs h))
  where
    each : (ys : List Slot) → Each (IsAlong w) ys → Each (IsAlong (thin w)) (map (along w) ys)
    each [] a = tt
    each (y ∷ ys) a = (f y a.0, each ys a.1)

-- rows along a way are so as they are seen along it
seen_goes : (w : Way) (s : Slot) → IsAlong w s → IsAlong (thin w) (along w s)
unfolding along
seen_goes (at_leaf b) null h = h
seen_goes (at_leaf b) (value v) h = h
seen_goes (at_leaf b) (items ss) h = absurd h
seen_goes (at_leaf b) (fields ss) h = absurd h
seen_goes (in_list b w) null h = h
seen_goes (in_list b w) (value v) h = absurd h
seen_goes (in_list b w) (items ss) h =
    subst (All (IsAlong (thin w))) (sym (list_of-slots_of (map (along w) (list_of ss)))) (all_along w (seen_goes w) (list_of ss) h)
seen_goes (in_list b w) (fields ss) h = absurd h
seen_goes (in_struct b i w) null h = h
seen_goes (in_struct b i w) (value v) h = absurd h
seen_goes (in_struct b i w) (items ss) h = absurd h
seen_goes (in_struct b i w) (fields ss) h = seen_goes w (slot_at ss i) h

-- what a leaf array's values are read as
abbrev read : ArrayTree → ℕ → Slot
read a i = value (value_at a i)

optional_slots : (a : ArrayTree) (old new : List Part) → IsInBounds old → AreRising old → MergesNulls a old new → is_leaf_optional old ≡ true → bounded_slots (read a) new ≡ bounded_slots (leaf_slot a) old
unfolding bounded_slots
optional_slots a old new b r m o =
    let k = leaf_mask new in
    let each = optional_slot (leaf_slot a) (read a) k old o b.fits r (λ i l. merged_slot a i (keeps (leaf_mask old) i) (keeps k i) (m.nulls o i l)) in
    subst (λ ps. bounded_slots (read a) ps ≡ bounded_slots (leaf_slot a) old) (sym m.parts)
    (rw (masked_count k old) (same_table (bounded_slot (read a) (with_leaf_mask k old)) (bounded_slot (leaf_slot a) old) 0 0 (slot_count old) (λ i l. each (0 + i) (omega (arith, l)))))

required_slots : (a : ArrayTree) (old new : List Part) → MergesNulls a old new → is_leaf_optional old ≡ false → All (IsAlong (path_way old)) (bounded_slots (leaf_slot a) old)
    → bounded_slots (read a) new ≡ bounded_slots (leaf_slot a) old
unfolding bounded_slots
required_slots a old new m r h =
    subst (λ ps. bounded_slots (read a) ps ≡ bounded_slots (leaf_slot a) old) (sym (m.required r))
    (along_table (bounded_slot (leaf_slot a) old) (bounded_slot (read a) old) (path_way old) 0 (slot_count old) (required_slot (leaf_slot a) (read a) (λ i e. value_back (leaf_slot a i) e) old r)
    (recursion_from_All (IsAlong (path_way old)) (slots_from (bounded_slot (leaf_slot a) old) 0 (slot_count old)) h))

same_slots : (rows : List Slot) (w : Way) (a : ArrayTree) (old new : List Part) → IsSeen rows w old a → AreRising old → MergesNulls a old new → (is_leaf_optional old ≡ true) ⊎ All (IsAlong w) rows
    → bounded_slots (read a) new ≡ map (along w) rows
same_slots rows w a old new s r m h = by (is_leaf_optional old) refl h
  where
    by : (b : Bool) → is_leaf_optional old ≡ b → (b ≡ true) ⊎ All (IsAlong w) rows → bounded_slots (read a) new ≡ map (along w) rows
    by true is k = optional_slots a old new s.in_bounds r m is ∙ s.slots
    by false is (inl k) = absurd (true≢false (sym k))
    by false is (inr k) =
        let seen : All (IsAlong (thin w)) (map (along w) rows) = all_along w (seen_goes w) rows k in
        let here : All (IsAlong (path_way old)) (bounded_slots (leaf_slot a) old) = subst (λ v. All (IsAlong v) (bounded_slots (leaf_slot a) old)) (sym s.way) (subst (All (IsAlong (thin w))) (sym s.slots) seen) in
        required_slots a old new m is here ∙ s.slots

pub merged_in_bounds : (a : ArrayTree) (old new : List Part) → MergesNulls a old new → IsInBounds old → IsInBounds new
merged_in_bounds a old new m b = subst IsInBounds (sym m.parts) (masked_in_bounds (leaf_mask new) old m.fits b)

pub merged_paths_have_columns : MergedPathsHaveColumns
merged_paths_have_columns rows w a old new nested o n s r m h l is =
    let k = leaf_mask new in
    let rising : AreRising new = subst AreRising (sym m.parts) (masked_rising k old r) in
    let rows_are : slot_count new ≡ length rows = ap slot_count m.parts ∙ masked_count k old ∙ s.count in
    let way : path_way new ≡ thin w = ap path_way m.parts ∙ masked_way k old ∙ s.way in
    let law = cuts_are_rows new o n (merged_in_bounds a old new m s.in_bounds) rising (omega (arith, l, rows_are)) in
    let first = (leaf_rows new o n).0 in
    let cut : path_slots (λ i. read a (first + i)) (cut_parts new o n) ≡ take n (drop o (bounded_slots (read a) new)) = law.slots (read a) (λ i. read a (first + i)) (λ i b. refl) in
    let rows_cut : take n (drop o (bounded_slots (read a) new)) ≡ map (along w) (take n (drop o rows)) =
    ap (λ xs. take n (drop o xs)) (same_slots rows w a old new s r m h) ∙ sym (map_cut (along w) rows o n)
    in
    ap (λ ps. column (path_way ps) (path_slots (λ i. read a (first + i)) ps)) is
    ∙ ap (λ v. column v (path_slots (λ i. read a (first + i)) (cut_parts new o n))) (law.way ∙ way)
    ∙ ap (column (thin w)) (cut ∙ rows_cut)
    ∙ seen_along w (take n (drop o rows))
