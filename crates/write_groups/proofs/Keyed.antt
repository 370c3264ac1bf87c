-- The columns of dictionary types are those whose arrays have entries.
use Rattle.std.proofs.Common.{◌≡◌, ◌<◌, ℕ, suc, Bool, true, true≢false, Option, None, Some, List, [], ◌∷◌, ◌++◌, map, refl, sym, ap, subst, ◌∙◌, arith}
use Rattle.std.specs.Prelude.{is_some}
use Rattle.shredding.specs.Slot.{Value}
use Rattle.columns_core.specs.Shapes.{base}
use Rattle.columns_core.specs.Tree.{TypeTree, t_null, t_list, t_fixed_size_list, t_large_list, t_struct, t_map, t_dictionary, t_extension, field, FieldTrees, no_fields, more_fields}
use Rattle.columns_slots.specs.Slots.{IsSound, AreSound, AreTyped, type_of, first_len, count_arrays}
use Rattle.columns_slots.specs.Tree.{ArrayTree, null_array, leaf_array, list_array, fixed_list_array, struct_array, dictionary_array, ArrayTrees, no_arrays, more_arrays}
use Rattle.columns_slots.specs.Types.{is_leaf, is_null_type, list_item, fixed_item, entry_type, part_types}
use Rattle.pq_headline.proofs.Plain.{NoKeys}
use Rattle.pq_headline.specs.Arrays.{entries_in, all_entries}
use Rattle.pq_headline.specs.Columns.{ArrowColumn, beneath_list, beneath_struct, is_dictionary, large_limit, small_limit, type_columns, columns_from}
use Rattle.write_pages.specs.Entries.{Entries}

-- each column has entries exactly where its type is a dictionary's
abbrev pub AreKeyed : List ArrowColumn → List Entries → Type 0
AreKeyed [] [] = Unit {0}
AreKeyed (c ∷ cs) (d ∷ ds) = (is_some d ≡ is_dictionary c.data_type) × AreKeyed cs ds
AreKeyed _ _ = ⊥

under_list : (b : Bool) (limit : ℕ) (cs : List ArrowColumn) (ds : List Entries) → AreKeyed cs ds → AreKeyed (map (beneath_list b limit) cs) ds
under_list b limit [] [] h = tt
under_list b limit (c ∷ cs) (d ∷ ds) h = (h.0, under_list b limit cs ds h.1)
under_list b limit cs ds h = absurd h

under_struct : (b : Bool) (i : ℕ) (cs : List ArrowColumn) (ds : List Entries) → AreKeyed cs ds → AreKeyed (map (beneath_struct b i) cs) ds
under_struct b i [] [] h = tt
under_struct b i (c ∷ cs) (d ∷ ds) h = (h.0, under_struct b i cs ds h.1)
under_struct b i cs ds h = absurd h

both_keyed : (cs cs' : List ArrowColumn) (ds ds' : List Entries) → AreKeyed cs ds → AreKeyed cs' ds' → AreKeyed (cs ++ cs') (ds ++ ds')
both_keyed [] cs' [] ds' h k = k
both_keyed (c ∷ cs) cs' (d ∷ ds) ds' h k = (h.0, both_keyed cs cs' ds ds' h.1 k)
both_keyed cs cs' ds ds' h k = absurd h

-- ---- one array

inside : Option TypeTree → TypeTree → TypeTree
inside (Some t) d = t
inside None d = d

same_in : (t u : TypeTree) → ◌≡◌ {A = Option TypeTree} (Some t) (Some u) → t ≡ u
unfolding inside
same_in t u e = ap (λ (o : Option TypeTree). inside o t) e

nulls_keyed : (b : Bool) (t : TypeTree) → is_null_type (base t) ≡ true → AreKeyed (type_columns b t) (None ∷ [])
nulls_keyed b (t_extension n t m) e = nulls_keyed b t e
nulls_keyed b t_null e = (refl, tt)
nulls_keyed b t e = absurd (true≢false (sym e))

values_keyed : (b : Bool) (t : TypeTree) → is_leaf (base t) ≡ true → AreKeyed (type_columns b t) (None ∷ [])
values_keyed b (t_extension n t m) e = values_keyed b t e
values_keyed b (t_list f) e = absurd (true≢false (sym e))
values_keyed b (t_large_list f) e = absurd (true≢false (sym e))
values_keyed b (t_fixed_size_list f n) e = absurd (true≢false (sym e))
values_keyed b (t_map f s) e = absurd (true≢false (sym e))
values_keyed b (t_struct fs) e = absurd (true≢false (sym e))
values_keyed b (t_dictionary k t s) e = absurd (true≢false (sym e))
values_keyed b t e = (refl, tt)

entries_keyed : (b : Bool) (t u : TypeTree) (es : List (Option Value)) → entry_type (base t) ≡ Some u → AreKeyed (type_columns b t) (Some es ∷ [])
entries_keyed b (t_extension n t m) u es e = entries_keyed b t u es e
entries_keyed b (t_dictionary k t s) u es e = (refl, tt)
entries_keyed b t u es e = absurd cc

list_keyed : (b : Bool) (t u : TypeTree) (ds : List Entries) → list_item (base t) ≡ Some u → ((k : Bool) → AreKeyed (type_columns k u) ds) → AreKeyed (type_columns b t) ds
list_keyed b (t_extension n t m) u ds e h = list_keyed b t u ds e h
list_keyed b (t_list (field n t k m)) u ds e h = under_list b small_limit (type_columns k t) ds (subst (λ (x : TypeTree). AreKeyed (type_columns k x) ds) (sym (same_in t u e)) (h k))
list_keyed b (t_large_list (field n t k m)) u ds e h = under_list b large_limit (type_columns k t) ds (subst (λ (x : TypeTree). AreKeyed (type_columns k x) ds) (sym (same_in t u e)) (h k))
list_keyed b (t_map (field n t k m) s) u ds e h = under_list b small_limit (type_columns k t) ds (subst (λ (x : TypeTree). AreKeyed (type_columns k x) ds) (sym (same_in t u e)) (h k))
list_keyed b t u ds e h = absurd cc

fixed_keyed : (b : Bool) (t u : TypeTree) (ds : List Entries) → fixed_item (base t) ≡ Some u → ((k : Bool) → AreKeyed (type_columns k u) ds) → AreKeyed (type_columns b t) ds
fixed_keyed b (t_extension n t m) u ds e h = fixed_keyed b t u ds e h
fixed_keyed b (t_fixed_size_list (field n t k m) w) u ds e h = under_list b large_limit (type_columns k t) ds (subst (λ (x : TypeTree). AreKeyed (type_columns k x) ds) (sym (same_in t u e)) (h k))
fixed_keyed b t u ds e h = absurd cc

struct_keyed : (b : Bool) (t : TypeTree) (cs : ArrayTrees) → AreTyped (part_types (base t)) cs → 0 < count_arrays cs → AreKeyed (columns_from b 0 (part_types (base t))) (all_entries cs) → AreKeyed (type_columns b t) (all_entries cs)
struct_keyed b (t_extension n t m) cs typed some h = struct_keyed b t cs typed some h
struct_keyed b (t_struct fs) cs typed some h = h
struct_keyed b t no_arrays typed some h = absurd (omega (arith, some))
struct_keyed b t (more_arrays c cs) typed some h = absurd typed

mutual
  keyed : (a : ArrayTree) (b : Bool) → IsSound a → AreKeyed (type_columns b (type_of a)) (entries_in a)
  keyed (null_array t n) b h = nulls_keyed b t h
  keyed (leaf_array t vs m) b h = values_keyed b t h.1
  keyed (list_array t os c m) b h = list_keyed b t (type_of c) (entries_in c) h.3 (λ k. keyed c k h.2)
  keyed (fixed_list_array t w n c m) b h = fixed_keyed b t (type_of c) (entries_in c) h.3 (λ k. keyed c k h.2)
  keyed (struct_array t cs m) b h = struct_keyed b t cs h.2 h.3 (all_keyed cs (part_types (base t)) b 0 (first_len cs) h.0 h.2)
  keyed (dictionary_array t ks c m) b h = entries_keyed b t (type_of c) _ h.2

  pub all_keyed : (cs : ArrayTrees) (fs : FieldTrees) (b : Bool) (place n : ℕ) → AreSound n cs → AreTyped fs cs → AreKeyed (columns_from b place fs) (all_entries cs)
  all_keyed no_arrays no_fields b place n h typed = tt
  all_keyed (more_arrays c cs) (more_fields (field name t k m) fs) b place n h typed =
      both_keyed (map (beneath_struct b place) (type_columns k t)) (columns_from b (suc place) fs) (entries_in c) (all_entries cs)
      (under_struct b place (type_columns k t) (entries_in c) (subst (λ (x : TypeTree). AreKeyed (type_columns k x) (entries_in c)) (sym typed.0) (keyed c k h.0))) (all_keyed cs fs b (suc place) n h.2 typed.1)
  all_keyed no_arrays (more_fields (field name t k m) fs) b place n h typed = absurd typed
  all_keyed (more_arrays c cs) no_fields b place n h typed = absurd typed

-- columns of other types have none
abbrev pub none_each : List ArrowColumn → List Entries
none_each cs = map (λ c. None) cs

pub all_none : (cs : List ArrowColumn) (ds : List Entries) → AreKeyed cs ds → NoKeys cs → ds ≡ none_each cs
all_none [] [] k n = refl
all_none (c ∷ cs) (None ∷ ds) k n = ap (λ (q : List Entries). None ∷ q) (all_none cs ds k.1 n.1)
all_none (c ∷ cs) (Some es ∷ ds) k n = absurd (true≢false (k.0 ∙ n.0))
all_none [] (d ∷ ds) k n = absurd k
all_none (c ∷ cs) [] k n = absurd k
