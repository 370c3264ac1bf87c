-- The sample's arrays have no dictionaries.
use Rattle.std.proofs.Common.{◌≡◌, ◌<◌, ◌++◌, List, [], ◌∷◌, Option, Some, None, refl, sym, subst, ap, ◌∙◌, arith}
use Rattle.std.specs.List.{AllByRecursion}
use Rattle.std.proofs.lemmas.List.Elements.{All-from_recursion}
use Rattle.columns_core.specs.Shapes.{base}
use Rattle.columns_core.specs.Tree.{FieldTrees, TypeTree, no_fields, more_fields, t_int32, t_int64, t_utf8}
use Rattle.columns_slots.specs.Slots.{AreTyped, IsSound, count_arrays, type_of}
use Rattle.columns_slots.specs.Types.{entry_type, fixed_item, list_item, part_types}
use Rattle.columns_slots.specs.Tree.{ArrayTree, ArrayTrees, dictionary_array, fixed_list_array, leaf_array, list_array, more_arrays, no_arrays, null_array, struct_array}
use Rattle.pq_headline.specs.Arrays.{all_entries, entries_in}
use Rattle.sample_rows.specs.Fields.{items_type}
use Rattle.sample_sizes.specs.Laws.{ArraysHaveNoEntries}
use Rattle.shredding.specs.Slot.{Value}

-- a type whose arrays have no others inside, but for the items of lists
record IsSimple (t : TypeTree) : Type 0 where
  fixed : fixed_item (base t) ≡ None
  entry : entry_type (base t) ≡ None
  parts : part_types (base t) ≡ no_fields

nothing : {A : Type 0} (o : Option A) (x : A) → o ≡ None → o ≡ Some x → ⊥
nothing o x a b = absurd (cc (a, b))

no_parts : (fs : FieldTrees) (cs : ArrayTrees) → fs ≡ no_fields → AreTyped fs cs → 0 < count_arrays cs → ⊥
no_parts no_fields no_arrays e h some = absurd (omega (arith, some))
no_parts no_fields (more_arrays c cs) e h some = absurd h
no_parts (more_fields f fs) cs e h some = absurd (cc e)

-- the entries of an array of such a type, where those of the items are known
entries_of : (t : TypeTree) (a : ArrayTree) → IsSimple t → type_of a ≡ t → IsSound a → ((c : ArrayTree) → list_item (base t) ≡ Some (type_of c) → IsSound c → entries_in c ≡ None ∷ []) → entries_in a ≡ None ∷ []
entries_of t (null_array u n) s e h items = refl
entries_of t (leaf_array u vs m) s e h items = refl
entries_of t (list_array u os c m) s e h items = items c (ap (λ x. list_item (base x)) (sym e) ∙ h.3) h.2
entries_of t (fixed_list_array u w n c m) s e h items = absurd (nothing (fixed_item (base u)) (type_of c) (ap (λ x. fixed_item (base x)) e ∙ s.fixed) h.3)
entries_of t (struct_array u cs m) s e h items = absurd (no_parts (part_types (base u)) cs (ap (λ x. part_types (base x)) e ∙ s.parts) h.2 h.3)
entries_of t (dictionary_array u ks c m) s e h items = absurd (nothing (entry_type (base u)) (type_of c) (ap (λ x. entry_type (base x)) e ∙ s.entry) h.2)

leaf_entries : (t : TypeTree) (a : ArrayTree) → IsSimple t → list_item (base t) ≡ None → type_of a ≡ t → IsSound a → entries_in a ≡ None ∷ []
leaf_entries t a s l e h = entries_of t a s e h (λ c i k. absurd (nothing (list_item (base t)) (type_of c) l i))

simple : IsSimple t_int64 × IsSimple t_utf8 × IsSimple t_int32 × IsSimple items_type
simple = (record { fixed = refl; entry = refl; parts = refl }, record { fixed = refl; entry = refl; parts = refl }, record { fixed = refl; entry = refl; parts = refl }, record { fixed = refl; entry = refl; parts = refl })

some_same : (x y : TypeTree) → Some x ≡ Some y → x ≡ y
some_same x y e = ap (type_or x) e
  where
    type_or : TypeTree → Option TypeTree → TypeTree
    type_or d None = d
    type_or d (Some t) = t

items_entries : (a : ArrayTree) → type_of a ≡ items_type → IsSound a → entries_in a ≡ None ∷ []
items_entries a e h = entries_of items_type a simple.3 e h (λ c i k. leaf_entries t_int32 c simple.2 refl (sym (some_same t_int32 (type_of c) i)) k)

both_none : (xs ys : List (Option (List (Option Value)))) → AllByRecursion (λ d. d ≡ None) xs → AllByRecursion (λ d. d ≡ None) ys → AllByRecursion (λ d. d ≡ None) (xs ++ ys)
both_none [] ys a b = b
both_none (x ∷ xs) ys a b = (a.0, both_none xs ys a.1 b)

alone : (xs : List (Option (List (Option Value)))) → xs ≡ None ∷ [] → AllByRecursion (λ d. d ≡ None) xs
alone xs e = subst (AllByRecursion (λ d. d ≡ None)) (sym e) (refl, tt)

pub arrays_have_no_entries : ArraysHaveNoEntries
arrays_have_no_entries no_arrays h s = absurd h
arrays_have_no_entries (more_arrays a no_arrays) h s = absurd h.1
arrays_have_no_entries (more_arrays a (more_arrays b no_arrays)) h s = absurd h.1.1
arrays_have_no_entries (more_arrays a (more_arrays b (more_arrays c no_arrays))) h s =
    let ids = alone (entries_in a) (leaf_entries t_int64 a simple.0 refl (sym h.0) s.0) in
    let tags = alone (entries_in b) (leaf_entries t_utf8 b simple.1 refl (sym h.1.0) s.1.0) in
    let lists = alone (entries_in c) (items_entries c (sym h.1.1.0) s.1.1.0) in
    All-from_recursion (λ d. d ≡ None) (all_entries (more_arrays a (more_arrays b (more_arrays c no_arrays))))
    (both_none (entries_in a) (entries_in b ++ (entries_in c ++ [])) ids (both_none (entries_in b) (entries_in c ++ []) tags (both_none (entries_in c) [] lists tt)))
arrays_have_no_entries (more_arrays a (more_arrays b (more_arrays c (more_arrays d ds)))) h s = absurd h.1.1.1
