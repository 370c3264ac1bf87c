-- A path over an array of nulls alone, with its nulls in the mask of its leaf.
use Rattle.std.proofs.Common.{◌≡◌, inl, inr, ℕ, zero, suc, ◌+◌, ◌<◌, ◌≤◌, Bool, true, false, true≢false, cond, Some, List, [], ◌∷◌, map, replicate, refl, ap, sym, subst, ◌∙◌, arith}
use Rattle.std.specs.List.{AllByRecursion as Each}
use Rattle.std.specs.Prelude.{All}
use Rattle.std.proofs.lemmas.Bool.{cases_lt}
use Rattle.std.proofs.lemmas.List.{get_or-replicate, length-map, length-replicate}
use Rattle.std.proofs.lemmas.List.Elements.{recursion_from_All}
use Rattle.shredding.proofs.Levels.{Each-append}
use Rattle.shredding.specs.Along.{IsAlong}
use Rattle.shredding.specs.Parts.{Part, leaf_part, list_part, struct_part, keeps, is_present, item_start, item_count, slot_count, slots_from, slot_in, path_slots, path_way, FitTogether, IsPath}
use Rattle.shredding.specs.Shape.{Way, in_list, in_struct}
use Rattle.shredding.specs.Slot.{Slot, null, value, truth, items, fields, no_slots, slot, list_of, slots_of}
use Rattle.columns_core.specs.Shapes.{base}
use Rattle.columns_core.specs.Tree.{TypeTree, t_null}
use Rattle.columns_slots.specs.Slots.{IsSound, tree_len, type_of}
use Rattle.columns_slots.specs.Tree.{ArrayTree, null_array, leaf_array, list_array, fixed_list_array, struct_array, dictionary_array}
use Rattle.columns_slots.specs.Types.{is_leaf, is_null_type, entry_type}
use Rattle.levels.specs.Ranges.{leaf_count_or}
use Rattle.nested_paths.specs.Seen.{leaf_slot}
use Rattle.write_places.specs.Places.{gather, slot_places, path_places}
use Rattle.write_values.specs.Nulls.{TellsNulls}
use Rattle.write_values.proofs.AlikeColumns.{slots_same}
use Rattle.write_values.proofs.Along.{path_along}
use Rattle.write_pages.specs.Nulls.{IsSeenPath, LooksAt, hidden, is_some_place}

-- ---- an array of nulls alone

no_leaf : (t : TypeTree) → is_null_type t ≡ true → is_leaf t ≡ true → ⊥
no_leaf t_null e l = true≢false (sym l)
no_leaf t e l = true≢false (sym e)

no_entries : (t i : TypeTree) → is_null_type t ≡ true → entry_type t ≡ Some i → ⊥
no_entries t_null i e h = cc
no_entries t i e h = true≢false (sym e)

null_slots : (a : ArrayTree) → IsSound a → is_null_type (base (type_of a)) ≡ true → (i : ℕ) → leaf_slot a i ≡ null
null_slots (null_array t n) s e i = refl
null_slots (leaf_array t vs m) s e i = absurd (no_leaf (base t) e s.1)
null_slots (list_array t os c m) s e i = refl
null_slots (fixed_list_array t w n c m) s e i = refl
null_slots (struct_array t cs m) s e i = refl
null_slots (dictionary_array t ks c m) s e i = absurd (no_entries (base t) (type_of c) e s.2)

-- masks need tell the nulls of no other array
pub others_told : (a : ArrayTree) (parts : List Part) → IsSound a → is_null_type (base (type_of a)) ≡ false → TellsNulls a parts
others_told (null_array t n) parts s e = absurd (true≢false (sym s ∙ e))
others_told (leaf_array t vs m) parts s e = tt
others_told (list_array t os c m) parts s e = tt
others_told (fixed_list_array t w n c m) parts s e = tt
others_told (struct_array t cs m) parts s e = tt
others_told (dictionary_array t ks c m) parts s e = tt

none_told : (a : ArrayTree) (parts : List Part) → path_places parts ≡ [] → TellsNulls a parts
none_told (null_array t n) parts e = e
none_told (leaf_array t vs m) parts e = tt
none_told (list_array t os c m) parts e = tt
none_told (fixed_list_array t w n c m) parts e = tt
none_told (struct_array t cs m) parts e = tt
none_told (dictionary_array t ks c m) parts e = tt

-- ---- the hidden path

hidden_count : (parts : List Part) → slot_count (map hidden parts) ≡ slot_count parts
hidden_count [] = refl
hidden_count (leaf_part b m c ∷ parts) = refl
hidden_count (list_part b m os ∷ parts) = refl
hidden_count (struct_part b m c ∷ parts) = refl

hidden_way : (parts : List Part) → path_way (map hidden parts) ≡ path_way parts
hidden_way [] = refl
hidden_way (leaf_part b m c ∷ parts) = refl
hidden_way (list_part b m os ∷ parts) = ap (in_list b) (hidden_way parts)
hidden_way (struct_part b m c ∷ parts) = ap (in_struct b zero) (hidden_way parts)

pub hidden_leaf : (parts : List Part) (d : ℕ) → leaf_count_or d (map hidden parts) ≡ leaf_count_or d parts
hidden_leaf [] d = refl
hidden_leaf (leaf_part b m c ∷ parts) d = hidden_leaf parts c
hidden_leaf (list_part b m os ∷ parts) d = hidden_leaf parts d
hidden_leaf (struct_part b m c ∷ parts) d = hidden_leaf parts d

hidden_fits : (parts : List Part) → FitTogether parts → FitTogether (map hidden parts)
hidden_fits [] w = tt
hidden_fits (leaf_part b m c ∷ parts) w = ((length-replicate c false, length-map parts hidden ∙ w.0.1), hidden_fits parts w.1)
hidden_fits (list_part b m os ∷ parts) w = ((w.0.0, hidden_count parts ∙ w.0.1, omega (arith, length-map parts hidden, w.0.2)), hidden_fits parts w.1)
hidden_fits (struct_part b m c ∷ parts) w = ((w.0.0, hidden_count parts ∙ w.0.1, omega (arith, length-map parts hidden, w.0.2)), hidden_fits parts w.1)

pub hidden_path : (parts : List Part) → IsPath parts → IsPath (map hidden parts)
hidden_path parts w = record { some = omega (arith, length-map parts hidden, w.some); fits = hidden_fits parts w.fits }

-- ---- its slots, over nulls

abbrev nulls : ℕ → Slot
nulls i = null

either_null : (b c : Bool) → cond b null null ≡ cond c null null
either_null true true = refl
either_null true false = refl
either_null false true = refl
either_null false false = refl

hidden_slot : (parts : List Part) (i : ℕ) → slot_in nulls (map hidden parts) i ≡ slot_in nulls parts i
unfolding slot_in
hidden_slot [] i = refl
hidden_slot (leaf_part b m c ∷ parts) i = either_null (is_present b (Some (replicate c false)) i) (is_present b m i)
hidden_slot (list_part b m os ∷ parts) i =
    ap (λ (f : ℕ → Slot). cond (is_present b m i) (items (slots_of (slots_from f (item_start os i) (item_count os i)))) null) (λ k j. hidden_slot parts j k)
hidden_slot (struct_part b m c ∷ parts) i = ap (λ (s : Slot). cond (is_present b m i) (fields (slot s no_slots)) null) (hidden_slot parts i)

hidden_slots : (parts : List Part) → path_slots nulls (map hidden parts) ≡ path_slots nulls parts
unfolding path_slots
hidden_slots parts =
    ap (λ (f : ℕ → Slot). slots_from f 0 (slot_count (map hidden parts))) (λ k j. hidden_slot parts j k) ∙ ap (slots_from (slot_in nulls parts) 0) (hidden_count parts)

-- ---- what it reaches: no place of the leaf, where its rows go along the way

module _ (w : Way) (Q : ℕ → Type 0) (f : ℕ → Slot) (g : ℕ → List ℕ) (each : (i : ℕ) → IsAlong w (f i) → Each Q (g i)) where
  gathered : (place count : ℕ) → Each (IsAlong w) (slots_from f place count) → Each Q (gather g place count)
  unfolding slots_from gather
  gathered place zero h = tt
  gathered place (suc count) h = Each-append Q (g place) (gather g (place + 1) count) (each place h.0) (gathered (place + 1) count h.1)

  of_items : (b p : Bool) (place count : ℕ) → IsAlong (in_list b w) (cond p (items (slots_of (slots_from f place count))) null) → Each Q (cond p (gather g place count) [])
  of_items b true place count h = gathered place count (back (slots_from f place count) (recursion_from_All (IsAlong w) _ h))
    where
      back : (ss : List Slot) → Each (IsAlong w) (list_of (slots_of ss)) → Each (IsAlong w) ss
      back [] h = tt
      back (s ∷ ss) h = (h.0, back ss h.1)
  of_items b false place count h = tt

  of_field : (b p : Bool) (i : ℕ) → IsAlong (in_struct b zero w) (cond p (fields (slot (f i) no_slots)) null) → Each Q (cond p (g i) [])
  of_field b true i h = each i h
  of_field b false i h = tt

behind : (c i : ℕ) → Each (λ j. c ≤ j) (cond (keeps (Some (replicate c false)) i) (i ∷ []) [])
behind c i =
    elim (cases_lt i c) [
      | inl l ↦ subst (λ (b : Bool). Each (λ j. c ≤ j) (cond b (i ∷ []) [])) (sym (get_or-replicate c i false true l)) tt
      | inr k ↦ by (keeps (Some (replicate c false)) i) k
    ]
  where
    by : (b : Bool) → c ≤ i → Each (λ j. c ≤ j) (cond b (i ∷ []) [])
    by true k = (k, tt)
    by false k = tt

places_behind : (parts : List Part) → FitTogether parts → (i : ℕ) → IsAlong (path_way parts) (slot_in nulls parts i) → Each (λ j. leaf_count_or 0 parts ≤ j) (slot_places (map hidden parts) i)
unfolding slot_in slot_places
places_behind [] w i h = tt
places_behind (leaf_part true m c ∷ []) w i h = behind c i
places_behind (leaf_part true m c ∷ p ∷ parts) w i h = absurd (omega (arith, w.0.1))
places_behind (leaf_part false m c ∷ parts) w i h = absurd (true≢false (sym h))
places_behind (list_part b m os ∷ parts) w i h =
    of_items (path_way parts) (λ j. leaf_count_or 0 parts ≤ j) (slot_in nulls parts) (slot_places (map hidden parts)) (places_behind parts w.1) b (is_present b m i) (item_start os i) (item_count os i) h
places_behind (struct_part b m c ∷ parts) w i h =
    of_field (path_way parts) (λ j. leaf_count_or 0 parts ≤ j) (slot_in nulls parts) (slot_places (map hidden parts)) (places_behind parts w.1) b (is_present b m i) i h

all_behind : (parts : List Part) → IsPath parts → All (IsAlong (path_way parts)) (path_slots nulls parts) → Each (λ j. leaf_count_or 0 parts ≤ j) (path_places (map hidden parts))
unfolding path_slots
all_behind parts w h =
    subst (λ (n : ℕ). Each (λ j. leaf_count_or 0 parts ≤ j) (gather (slot_places (map hidden parts)) 0 n)) (sym (hidden_count parts))
    (gathered (path_way parts) (λ j. leaf_count_or 0 parts ≤ j) (slot_in nulls parts) (slot_places (map hidden parts)) (places_behind parts w.fits) 0 (slot_count parts) (recursion_from_All (IsAlong (path_way parts)) _ h))

none_there : (c : ℕ) (places : List ℕ) → Each (λ j. c ≤ j) places → Each (λ j. j < c) places → places ≡ []
none_there c [] h k = refl
none_there c (i ∷ is) h k = absurd (omega (arith, h.0, k.0))

-- ---- of the array

module _ (a : ArrayTree) (parts : List Part) (s : IsSound a) (e : is_null_type (base (type_of a)) ≡ true) (well : IsPath parts) (leaf : tree_len a ≡ leaf_count_or 0 parts) where
  over_nulls : (ps : List Part) → path_slots (leaf_slot a) ps ≡ path_slots nulls ps
  over_nulls ps = ap (λ (f : ℕ → Slot). path_slots f ps) (λ k i. null_slots a s e i k)

  none_looked_at : (looked : Bool) → LooksAt (tree_len a) (path_places (map hidden parts)) false looked → looked ≡ false → path_places (map hidden parts) ≡ []
  none_looked_at looked h f = empty (path_places (map hidden parts)) (sym h.is ∙ f)
    where
      empty : (places : List ℕ) → is_some_place places ≡ false → places ≡ []
      empty [] q = refl
      empty (i ∷ is) q = absurd (true≢false q)

  pub seen : (looked : Bool) → LooksAt (tree_len a) (path_places (map hidden parts)) false looked → looked ≡ false → IsSeenPath a parts (map hidden parts)
  seen looked h f = record {
    well = hidden_path parts well;
    few = length-map parts hidden;
    leaf = leaf ∙ sym (hidden_leaf parts 0);
    way = hidden_way parts;
    rows = over_nulls (map hidden parts) ∙ (hidden_slots parts ∙ sym (over_nulls parts));
    told = none_told a (map hidden parts) (none_looked_at looked h f);
  }

  pub goes_along : (looked : Bool) → LooksAt (tree_len a) (path_places (map hidden parts)) false looked → looked ≡ false → All (IsAlong (path_way parts)) (path_slots (leaf_slot a) parts)
  goes_along looked h f =
      let new = map hidden parts in
      let v : ℕ → Slot = λ i. value (truth false) in
      let same : path_slots v new ≡ path_slots (leaf_slot a) parts = slots_same v nulls new (subst (Each (λ i. v i ≡ nulls i)) (sym (none_looked_at looked h f)) tt) ∙ (hidden_slots parts ∙ sym (over_nulls parts)) in
      subst (λ (w : Way). All (IsAlong w) (path_slots (leaf_slot a) parts)) (hidden_way parts)
      (subst (All (IsAlong (path_way new))) same (path_along (λ i. truth false) new (hidden_path parts well)))

  pub goes_astray : (looked : Bool) → LooksAt (tree_len a) (path_places (map hidden parts)) false looked → looked ≡ true → ¬ All (IsAlong (path_way parts)) (path_slots (leaf_slot a) parts)
  goes_astray looked h t all =
      let c : tree_len a ≡ leaf_count_or 0 parts = leaf in
      let below : Each (λ j. j < leaf_count_or 0 parts) (path_places (map hidden parts)) = subst (λ (n : ℕ). Each (λ j. j < n) (path_places (map hidden parts))) c (recursion_from_All (λ j. j < tree_len a) _ h.within) in
      let none = none_there (leaf_count_or 0 parts) (path_places (map hidden parts)) (all_behind parts well (subst (All (IsAlong (path_way parts))) (over_nulls parts) all)) below in
      true≢false (sym t ∙ (h.is ∙ ap is_some_place none))
