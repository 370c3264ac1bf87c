-- Groups of fields that the program serves, which are asked for in the encodings that are chosen.
use Rattle.std.proofs.Common.{◌≡◌, ℕ, suc, Bool, true, false, List, [], ◌∷◌, ◌++◌, map, refl, sym, ap, subst, ◌∙◌}
use Rattle.std.proofs.lemmas.Bool.{and_parts}
use Rattle.std.proofs.lemmas.List.{length-map, map-append}
use Rattle.shredding.specs.Slot.{Slots}
use Rattle.columns_array.specs.Chunks.{HaveLen}
use Rattle.columns_core.specs.Tree.{TypeTree, field, FieldTrees, no_fields, more_fields}
use Rattle.columns_slots.specs.Slots.{AreSound, AreTyped, first_len}
use Rattle.columns_slots.specs.Tree.{ArrayTrees, no_arrays, more_arrays}
use Rattle.pq_files.specs.Page.{Encoding}
use Rattle.pq_headline.proofs.Plain.{fields_keys}
use Rattle.pq_headline.specs.Arrays.{all_entries, rows_of}
use Rattle.pq_headline.specs.Columns.{beneath_struct, columns_from, schema_columns, type_columns}
use Rattle.pq_headline.specs.Output.{IsLaidGroup, all_chosen}
use Rattle.pq_headline.specs.Served.{are_served_fields, is_served_type}
use Rattle.pq_tree.specs.Tree.{Trees, no_trees, tree, columns_of, leaves, leaves_of}
use Rattle.pq_tree.specs.declared.types.Encoding.{Encoding as Asked}
use Rattle.schema_to_tree.specs.Table.{schema_of, trees_of}
use Rattle.typed_arrays.specs.Typed.{TypedColumnsAreOwn, TypedSlotsAreRead, node}
use Rattle.write_pages.specs.Entries.{Entries}
use Rattle.write_pages.specs.declared.options.WriteOptions.{WriteOptions}
use Rattle.write_values.specs.Deltas.{encoding_name}
use Rattle.write_groups.proofs.Chosen.{chosen-append, chosen_used, own_named}
use Rattle.write_groups.proofs.GroupLaid.{columns_many, group_laid}
use Rattle.write_groups.proofs.Groups.{even_len}
use Rattle.write_groups.proofs.Keyed.{all_keyed, all_none, none_each}
use Rattle.write_groups.proofs.ReadRows.{rows_read}
use Rattle.write_groups.specs.Columns.{AreGroupColumns}
use Rattle.write_groups.specs.Laid.{AreChosen, AreUsed, ServedGroupsAreLaid, all_names, encodings_of, style_of}
use Rattle.write_groups.specs.declared.column.ChunkColumn.{ChunkColumn}

-- the arrays whose columns are there are sound
pub group_sound : (o : WriteOptions) (cs : ArrayTrees) (ts : Trees) (ess : List (List Asked)) (columns : List ChunkColumn) (n : ℕ) → AreGroupColumns o cs ts ess columns → HaveLen n cs → AreSound n cs
group_sound o no_arrays ts ess columns n h even = tt
group_sound o (more_arrays c cs) (tree t ts) (es ∷ ess) columns n h even = (h.3.sound, even.0, group_sound o cs ts ess h.1 n h.4 even.1)
group_sound o (more_arrays c cs) no_trees ess columns n h even = absurd h
group_sound o (more_arrays c cs) (tree t ts) [] columns n h even = absurd h

served_first : (name : List ℕ) (t : TypeTree) (b : Bool) (md : List _) (fs : FieldTrees) → are_served_fields (more_fields (field name t b md) fs) ≡ true → is_served_type t ≡ true
served_first name t b md fs s = (and_parts (is_served_type t) (are_served_fields fs) s).0

served_rest : (name : List ℕ) (t : TypeTree) (b : Bool) (md : List _) (fs : FieldTrees) → are_served_fields (more_fields (field name t b md) fs) ≡ true → are_served_fields fs ≡ true
served_rest name t b md fs s = (and_parts (is_served_type t) (are_served_fields fs) s).1

-- the encodings that are asked for are those that are chosen
all_named : TypedColumnsAreOwn → (wanted : Bool) (o : WriteOptions) (fs : FieldTrees) (cs : ArrayTrees) (ess : List (List Asked)) (columns : List ChunkColumn) (place : ℕ)
    → are_served_fields fs ≡ true → AreChosen wanted fs (trees_of fs) ess → AreGroupColumns o cs (trees_of fs) ess columns → AreTyped fs cs
    → all_names ess ≡ map encoding_name (all_chosen wanted (columns_from false place fs) (leaves_of (trees_of fs)))
all_named own wanted o no_fields no_arrays [] columns place served asks h typed = refl
all_named own wanted o (more_fields (field name t b md) fs) (more_arrays c cs) (es ∷ ess) columns place served asks h typed =
    let ls = leaves (node name b t) in
    let ks = leaves_of (trees_of fs) in
    let own_columns = map (beneath_struct false place) (type_columns b t) in
    let others = columns_from false (suc place) fs in
    let many = columns_many own o name b t c es h.0 typed.0 h.3 in
    let mine : es ≡ map encoding_name (all_chosen wanted own_columns ls) = asks.0 ∙ own_named wanted place b t ls (served_first name t b md fs served) many in
    let theirs : all_names ess ≡ map encoding_name (all_chosen wanted others ks) = all_named own wanted o fs cs ess h.1 (suc place) (served_rest name t b md fs served) asks.1 h.4 typed.1 in
    (λ i. mine i ++ theirs i) ∙ (sym (map-append encoding_name (all_chosen wanted own_columns ls) (all_chosen wanted others ks))
    ∙ ap (map encoding_name) (sym (chosen-append wanted own_columns others ls ks (length-map (type_columns b t) (beneath_struct false place) ∙ many))))
all_named own wanted o no_fields no_arrays (es ∷ ess) columns place served asks h typed = absurd h
all_named own wanted o no_fields (more_arrays c cs) ess columns place served asks h typed = absurd typed
all_named own wanted o (more_fields (field x t y z) fs) no_arrays ess columns place served asks h typed = absurd typed
all_named own wanted o (more_fields (field x t y z) fs) (more_arrays c cs) [] columns place served asks h typed = absurd h

pub served_laid : TypedColumnsAreOwn → TypedSlotsAreRead → ServedGroupsAreLaid
served_laid own read wanted fs g out typed even are trees served asks h is =
    let cs = schema_columns fs in
    let ls = columns_of (schema_of fs) in
    let ess = map (λ es. es.items) g.encodings.items in
    let k = group_laid own fs g out typed even trees h is in
    let there : AreGroupColumns g.options g.chunk (trees_of fs) ess g.columns.items = subst (λ (ts : Trees). AreGroupColumns g.options g.chunk ts ess g.columns.items) trees h in
    let sound : AreSound (first_len g.chunk) g.chunk = group_sound g.options g.chunk (trees_of fs) ess g.columns.items (first_len g.chunk) there (even_len g.chunk even) in
    let names : all_names ess ≡ map encoding_name (all_chosen wanted cs ls) = all_named own wanted g.options fs g.chunk ess g.columns.items 0 served asks there typed in
    let xs : encodings_of g.columns.items ≡ all_chosen wanted cs ls = chosen_used wanted fs g.chunk (encodings_of g.columns.items) typed sound (subst (λ (q : List Asked). AreUsed cs (all_entries g.chunk) q (encodings_of g.columns.items)) names k.used) in
    let none : all_entries g.chunk ≡ none_each cs = all_none cs (all_entries g.chunk) (all_keyed g.chunk fs false 0 (first_len g.chunk) sound typed) (fields_keys false 0 fs served) in
    subst (λ (q : List Entries). IsLaidGroup (style_of g.options) (rows_of g.chunk) cs ls (all_chosen wanted cs ls) q out) none
    (subst (λ (q : List Encoding). IsLaidGroup (style_of g.options) (rows_of g.chunk) cs ls q (all_entries g.chunk) out) xs
    (subst (λ (q : List Slots). IsLaidGroup (style_of g.options) q cs ls (encodings_of g.columns.items) (all_entries g.chunk) out) (rows_read read fs g.chunk typed sound are) k.laid))
