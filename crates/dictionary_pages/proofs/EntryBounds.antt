-- The entries of a dictionary as a column of their own, and what is stated by it.
use Rattle.std.proofs.Common.{◌≡◌, ℕ, ℤ, zero, suc, ◌+◌, ◌≤◌, pos, Bool, true, false, true≢false, cond, List, [], ◌∷◌, ◌++◌, length, map, flat_map, Some, None, Option, option_map, is_none, refl, ap, sym, subst, ◌∙◌, arith}
use Rattle.std.specs.Prelude.{MatchOption, ◌^◌, count_by, filter_map}
use Rattle.std.proofs.lemmas.List.Sums.{count_by-le-length}
use Rattle.shredding.specs.Parts.{keeps, leaf_part, slot_in, slots_from, path_slots}
use Rattle.shredding.specs.Shape.{LeafType, at_leaf}
use Rattle.shredding.specs.Shred.{Triple, shred}
use Rattle.shredding.specs.Slot.{Slot, Value, null, value}
use Rattle.columns_core.specs.Tree.{TypeTree}
use Rattle.columns_entries.specs.Entries.{entry_value, entries_of}
use Rattle.columns_slots.specs.Slots.{leaf_at, slot_at, tree_len}
use Rattle.columns_slots.specs.Tree.{Mask, ArrayTree, null_array, leaf_array, list_array, fixed_list_array, struct_array, dictionary_array}
use Rattle.nested_paths.specs.LeafNulls.{value_at}
use Rattle.nested_paths.specs.ValueMasks.{is_valued}
use Rattle.pq_tree.specs.Footers.{ChunkStatistics}
use Rattle.pq_tree.specs.Physical.{Physical}
use Rattle.pq_files.specs.Page.{values_in}
use Rattle.pq_files.specs.Room.{max_count}
use Rattle.pq_files.specs.Statistics.{Statistics, HasBounds, HasStatistics, has_order}
use Rattle.pq_files.specs.Written.{statistics_of}
use Rattle.page_statistics.specs.Spelled.{BoundsAreSpelled, IsExact}
use Rattle.dictionary_pages.specs.Entries.{entry_column}
use Rattle.dictionary_pages.specs.Pages.{AreStatedBy}
use Rattle.dictionary_pages.proofs.Named.{entries_count}

-- ---- the column

module _ (t : TypeTree) (vs : List Value) (m : Mask) (n : ℕ) where
  abbrev at : ℕ → Slot
  at = slot_in (λ i. value (value_at (leaf_array t vs m) i)) (leaf_part true m n ∷ [])

  abbrev triples : List Slot → List Triple
  triples ss = flat_map (λ s. shred (at_leaf true) s 0 0 0) ss

  values_from : (from k : ℕ) → values_in (triples (slots_from at from k)) ≡ filter_map (λ e. e) (map entry_value (slots_from (slot_at (leaf_array t vs m)) from k))
  unfolding slots_from slot_in shred
  values_from from zero = refl
  values_from from (suc k) = by (keeps m from) (values_from (from + 1) k)
    where
      by : (b : Bool) → values_in (triples (slots_from at (from + 1) k)) ≡ filter_map (λ e. e) (map entry_value (slots_from (slot_at (leaf_array t vs m)) (from + 1) k))
          → values_in (shred (at_leaf true) (cond b (value (leaf_at vs from)) null) 0 0 0 ++ triples (slots_from at (from + 1) k)) ≡ filter_map (λ e. e) (entry_value (cond b (value (leaf_at vs from)) null) ∷ map entry_value (slots_from (slot_at (leaf_array t vs m)) (from + 1) k))
      by true e = ap (λ (us : List Value). leaf_at vs from ∷ us) e
      by false e = e

  pairs_from : (from k : ℕ) → length (triples (slots_from at from k)) ≡ k
  unfolding slots_from slot_in shred
  pairs_from from zero = refl
  pairs_from from (suc k) = by (keeps m from) (pairs_from (from + 1) k)
    where
      by : (b : Bool) → length (triples (slots_from at (from + 1) k)) ≡ k → length (shred (at_leaf true) (cond b (value (leaf_at vs from)) null) 0 0 0 ++ triples (slots_from at (from + 1) k)) ≡ suc k
      by true e = ap suc e
      by false e = ap suc e

pub entry_values : (c : ArrayTree) → is_valued c ≡ true → values_in (entry_column c) ≡ filter_map (λ e. e) (entries_of c)
unfolding path_slots
entry_values (leaf_array t vs m) v = values_from t vs m (length vs) 0 (length vs)
entry_values (null_array t n) v = absurd (true≢false (sym v))
entry_values (list_array t os c m) v = absurd (true≢false (sym v))
entry_values (fixed_list_array t w n c m) v = absurd (true≢false (sym v))
entry_values (struct_array t cs m) v = absurd (true≢false (sym v))
entry_values (dictionary_array t ks c m) v = absurd (true≢false (sym v))

pub entry_pairs : (c : ArrayTree) → is_valued c ≡ true → length (entry_column c) ≡ tree_len c
unfolding path_slots
entry_pairs (leaf_array t vs m) v = pairs_from t vs m (length vs) 0 (length vs)
entry_pairs (null_array t n) v = absurd (true≢false (sym v))
entry_pairs (list_array t os c m) v = absurd (true≢false (sym v))
entry_pairs (fixed_list_array t w n c m) v = absurd (true≢false (sym v))
entry_pairs (struct_array t cs m) v = absurd (true≢false (sym v))
entry_pairs (dictionary_array t ks c m) v = absurd (true≢false (sym v))

-- ---- what is stated

-- with another number of nulls
abbrev pub with_nulls : Option ℤ → ChunkStatistics → ChunkStatistics
with_nulls count s = record { null_count = count; max_value = s.max_value; min_value = s.min_value }

abbrev pub some_with : Option ℤ → Option ChunkStatistics → Option ChunkStatistics
some_with count None = None
some_with count (Some s) = Some (with_nulls count s)

pub not_wanted : (t : LeafType) (p : Physical) (c : ArrayTree) (ts : List Triple) → AreStatedBy false t p (entries_of c) ts None
not_wanted t p c ts = record { out = None; are = λ few less. refl; has = tt; exact = tt }

module _ (t : LeafType) (p : Physical) (c : ArrayTree) (v : is_valued c ≡ true) (ts : List Triple) where
  abbrev nulls : ℕ
  nulls = count_by (λ x. is_none x.value) ts

  pub by_entries : (own : Option Statistics) (told : Option ChunkStatistics) → (length (entry_column c) ≤ max_count → told ≡ option_map statistics_of own) → HasStatistics true t p own (entry_column c) (values_in (entry_column c)) → IsExact t p (values_in (entry_column c)) own
      → (count : Option ℤ) → (length ts ≤ max_count → count ≡ Some (pos nulls)) → AreStatedBy true t p (entries_of c) ts (some_with count told)
  by_entries None told are has exact count is = absurd has
  by_entries (Some st) told are has exact count is =
      let few : length (entries_of c) ≤ max_count → length (entry_column c) ≤ max_count = λ h. omega (arith, h, entries_count c, entry_pairs c v) in
      record {
        out = Some (record { null_count = nulls; bounds = st.bounds });
        are = λ a b. ap (λ s. some_with count s) (are (few b)) ∙ ap (λ k. Some (with_nulls k (statistics_of st))) (is a);
        has = record { null_count = refl; bounds = subst (HasBounds t p (has_order t) st.bounds) (entry_values c v) has.bounds };
        exact = subst (λ (us : List Value). BoundsAreSpelled t p us st.bounds) (entry_values c v) exact;
      }

  -- a count of no more than 2^63 - 1 is stated
  few_nulls : (count : Option ℤ) (n : ℕ) → MatchOption count (2 ^ 63 ≤ n) (λ z. z ≡ pos n) → n ≤ max_count → count ≡ Some (pos n)
  few_nulls None n h low = absurd (omega (arith, h, low))
  few_nulls (Some z) n h low = ap Some h

  pub nulls_stated : (count : Option ℤ) (n : ℕ) → MatchOption count (2 ^ 63 ≤ n) (λ z. z ≡ pos n) → (length ts ≤ max_count → n ≡ nulls) → length ts ≤ max_count → count ≡ Some (pos nulls)
  nulls_stated count n h is few =
      let low : n ≤ max_count = omega (arith, is few, few, count_by-le-length (λ x. is_none x.value) ts) in
      few_nulls count n h low ∙ ap (λ k. Some (pos k)) (is few)
