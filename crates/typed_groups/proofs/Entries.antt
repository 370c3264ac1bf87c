-- Arrays whose types are served have no dictionaries.
use Rattle.std.proofs.Common.{◌≡◌, ℕ, suc, Bool, true, false, true≢false, Option, None, List, [], ◌∷◌, ◌++◌, map, refl, sym, ap, subst, ◌∙◌}
use Rattle.std.proofs.lemmas.List.{map-append}
use Rattle.shredding.specs.Slot.{Value}
use Rattle.columns_core.specs.Shapes.{base}
use Rattle.columns_core.specs.Tree.{TypeTree, t_list, t_fixed_size_list, t_large_list, t_struct, t_map, t_extension, field, FieldTrees, no_fields, more_fields}
use Rattle.columns_slots.specs.Slots.{IsSound, AreSound, AreTyped, type_of, first_len}
use Rattle.columns_slots.specs.Tree.{ArrayTree, null_array, leaf_array, list_array, fixed_list_array, struct_array, dictionary_array, ArrayTrees, no_arrays, more_arrays}
use Rattle.columns_slots.specs.Types.{part_types}
use Rattle.pq_headline.specs.Arrays.{rows_of, entries_in, all_entries}
use Rattle.pq_headline.specs.Columns.{ArrowColumn, beneath_list, beneath_struct, type_columns, columns_from, schema_columns}
use Rattle.pq_headline.specs.Output.{IsLaidGroup, all_chosen}
use Rattle.pq_headline.specs.Served.{is_served_type, are_served_fields}
use Rattle.pq_tree.specs.Tree.{Trees, columns_of}
use Rattle.schema_to_tree.specs.Table.{schema_of}
use Rattle.typed_groups.proofs.Leaves.{served_first, served_rest}
use Rattle.typed_groups.proofs.Nodes.{list_is, item_served, struct_is, parts_served, has_leaves, values_leaves, nulls_leaves, fixed_unserved, keys_unserved}
use Rattle.typed_groups.specs.Suiting.{AreAllSound, GroupsAreWritten}
use Rattle.write_groups.specs.Laid.{AreChosen, ServedGroupsAreLaid, style_of}

-- the entries of a column's dictionary, if it has one
abbrev pub Entries : Type 0
Entries = Option (List (Option Value))

abbrev pub none_each : List ArrowColumn → List Entries
none_each cs = map (λ c. None) cs

none_map : (f : ArrowColumn → ArrowColumn) (cs : List ArrowColumn) → none_each (map f cs) ≡ none_each cs
none_map f [] = refl
none_map f (c ∷ cs) = ap (λ (es : List Entries). None ∷ es) (none_map f cs)

one_none : (b : Bool) (t : TypeTree) → has_leaves (base t) ≡ true → none_each (type_columns b t) ≡ None ∷ []
one_none b (t_extension n t m) e = one_none b t e
one_none b (t_list f) e = absurd (true≢false (sym e))
one_none b (t_large_list f) e = absurd (true≢false (sym e))
one_none b (t_fixed_size_list f n) e = absurd (true≢false (sym e))
one_none b (t_map f z) e = absurd (true≢false (sym e))
one_none b (t_struct fs) e = absurd (true≢false (sym e))
one_none b t e = refl

each_sound : (n : ℕ) (cs : ArrayTrees) → AreSound n cs → AreAllSound cs
each_sound n no_arrays h = tt
each_sound n (more_arrays c cs) h = (h.0, each_sound n cs h.2)

mutual
  pub no_entries : (a : ArrayTree) (b : Bool) → IsSound a → is_served_type (type_of a) ≡ true → entries_in a ≡ none_each (type_columns b (type_of a))
  no_entries (null_array t n) b h s = sym (one_none b t (nulls_leaves (base t) h))
  no_entries (leaf_array t vs m) b h s = sym (one_none b t (values_leaves (base t) h.1))
  no_entries (dictionary_array t ks c m) b h s = absurd (keys_unserved t (type_of c) h.2 s)
  no_entries (fixed_list_array t w n c m) b h s = absurd (fixed_unserved t (type_of c) h.3 s)
  no_entries (list_array t os c m) b h s =
      let p = list_is [] b t (type_of c) h.3 in
      no_entries c p.is_nullable h.2 (item_served t (type_of c) h.3 s) ∙ sym (ap none_each p.columns ∙ none_map (beneath_list b p.limit) (type_columns p.is_nullable (type_of c)))
  no_entries (struct_array t cs m) b h s =
      let p = struct_is [] b t cs h.3 h.2 in
      none_of_all cs (part_types (base t)) b 0 (each_sound (first_len cs) cs h.0) h.2 (parts_served t s) ∙ sym (ap none_each p.columns)

  none_of_all : (cs : ArrayTrees) (fs : FieldTrees) (b : Bool) (place : ℕ) → AreAllSound cs → AreTyped fs cs → are_served_fields fs ≡ true → all_entries cs ≡ none_each (columns_from b place fs)
  none_of_all no_arrays no_fields b place h typed s = refl
  none_of_all (more_arrays c cs) (more_fields (field name t k m) fs) b place h typed s =
      let own : entries_in c ≡ none_each (type_columns k t) = subst (λ (x : TypeTree). entries_in c ≡ none_each (type_columns k x)) (sym typed.0) (no_entries c k h.0 (ap is_served_type (sym typed.0) ∙ served_first name t k m fs s)) in
      let rest = none_of_all cs fs b (suc place) h.1 typed.1 (served_rest name t k m fs s) in
      (λ i. own i ++ rest i) ∙ (ap (λ (es : List Entries). es ++ none_each (columns_from b (suc place) fs)) (sym (none_map (beneath_struct b place) (type_columns k t)))
      ∙ sym (map-append (λ (x : ArrowColumn). None) (map (beneath_struct b place) (type_columns k t)) (columns_from b (suc place) fs)))
  none_of_all no_arrays (more_fields (field x t y z) fs) b place h typed s = absurd typed
  none_of_all (more_arrays c cs) no_fields b place h typed s = absurd typed

pub entries_are_none : (cs : ArrayTrees) (fs : FieldTrees) → AreAllSound cs → AreTyped fs cs → are_served_fields fs ≡ true → all_entries cs ≡ map (λ c. None) (schema_columns fs)
entries_are_none cs fs h typed s = none_of_all cs fs false 0 h typed s

-- ---- a group has the entries of its arrays, which are none

pub written : ServedGroupsAreLaid → GroupsAreWritten
written laid wanted fs g out h columns is =
    let cs = schema_columns fs in
    let ls = columns_of (schema_of fs) in
    let asks = subst (λ (ts : Trees). AreChosen wanted fs ts (map (λ es. es.items) g.encodings.items)) h.trees_are h.encodings in
    let k = laid wanted fs g out h.typed h.even h.rows_are h.trees_are h.served asks columns is in
    let ds : map (λ (c : ArrowColumn). None) cs ≡ all_entries g.chunk = sym (entries_are_none g.chunk fs h.sound h.typed h.served) in
    subst (λ (xs : List Entries). IsLaidGroup (style_of g.options) (rows_of g.chunk) cs ls (all_chosen wanted cs ls) xs out) ds k
