-- A page of a chunk that is refused for its room is too large.
use Rattle.std.proofs.Common.{◌≡◌, ◌⊎◌, inl, inr, ℕ, suc, ◌+◌, true, false, List, [], ◌∷◌, ◌++◌, length, map, All, None, refl, sym, ap, subst, ◌∙◌, arith, Vec}
use Rattle.std.specs.Global.{Global}
use Rattle.std.specs.List.{AllByRecursion as Each}
use Rattle.std.proofs.lemmas.List.{map-append}
use Rattle.std.proofs.lemmas.List.Elements.{All-from_recursion, recursion_from_All}
use Rattle.shredding.specs.Parts.{Part}
use Rattle.shredding.specs.Shape.{Shape, Shapes, shape, IsOf, AreOf, Way, in_struct, ways}
use Rattle.shredding.specs.Slot.{Slot, null, Slots, no_slots, slot, slot_at}
use Rattle.columns_array.specs.Chunks.{AreEven, HaveLen}
use Rattle.columns_base.specs.declared.error.Error.{Error}
use Rattle.columns_base.specs.declared.error.Error.TheVariants.{Memory, Overflow}
use Rattle.columns_base.specs.declared.error.V.TheVariants.{V3}
use Rattle.columns_core.specs.Shapes.{shapes_of, type_shape}
use Rattle.columns_core.specs.Tree.{TypeTree, field, FieldTrees, no_fields, more_fields}
use Rattle.columns_slots.specs.Slots.{slots, tree_len, first_len, AreTyped, type_of}
use Rattle.columns_slots.specs.Tree.{ArrayTree, null_array, leaf_array, list_array, fixed_list_array, struct_array, dictionary_array, ArrayTrees, no_arrays, more_arrays}
use Rattle.nested_paths.specs.Leaves.{array_leaves, leaves_in, node_of}
use Rattle.nested_paths.specs.Paths.{misfit, paths}
use Rattle.nested_paths.specs.Seen.{AreSeen, read_by, shape_by}
use Rattle.pq_headline.proofs.RowsOf.{field_of, length_rows}
use Rattle.pq_headline.specs.Arrays.{array_at, rows_of as chunk_rows, all_entries, entries_in}
use Rattle.pq_headline.specs.Columns.{ArrowColumn, beneath_struct, type_columns, columns_from, schema_columns}
use Rattle.pq_headline.specs.Output.{SomeIsLarge, Style, PieceIsTooLarge}
use Rattle.pq_headline.specs.Rows.{field_slots}
use Rattle.pq_headline.specs.Served.{are_served_fields, is_served_type}
use Rattle.pq_tree.specs.Tree.{Leaf, Trees, columns_of, leaves, leaves_of}
use Rattle.pq_tree.specs.declared.types.Encoding.{Encoding}
use Rattle.schema_to_tree.specs.Table.{schema_of, trees_of}
use Rattle.typed_arrays.specs.Typed.{AreAlong, TypedColumnsAreOwn, TypedSlotsAreRead, node}
use Rattle.typed_groups.proofs.Entries.{entries_are_none, no_entries}
use Rattle.typed_groups.specs.Suiting.{LargePagesAreLarge}
use Rattle.write_file.specs.Pages.{SomeRefuses}
use Rattle.write_groups.specs.Columns.{AreGroupColumns}
use Rattle.write_groups.specs.Given.{RefusesColumn, to_come}
use Rattle.write_groups.specs.Laid.{AreOwnColumns, style_of}
use Rattle.write_groups.specs.declared.column.ChunkColumn.{ChunkColumn}
use Rattle.write_pages.specs.Columns.{AreColumns}
use Rattle.write_pages.specs.Entries.{Entries, leaf_entries}
use Rattle.write_pages.specs.Holds.{ToGive}
use Rattle.write_pages.specs.declared.options.WriteOptions.{WriteOptions}
use Rattle.typed_groups.proofs.LargeColumns.{HaveNoEntries, IsOfLarge, each_large}
use Rattle.typed_groups.proofs.Leaves.{served_first, served_rest}

-- ---- fields side by side

pub own_beneath : (place : ℕ) (ws : List Way) (arrays : List ArrayTree) (cs : List ArrowColumn) → AreAlong ws arrays cs → AreOwnColumns place ws arrays (map (beneath_struct false place) cs)
own_beneath place [] [] [] h = tt
own_beneath place (w ∷ ws) (a ∷ arrays) (c ∷ cs) h = (ap (in_struct false place) h.0, h.1, own_beneath place ws arrays cs h.2)
own_beneath place [] [] (c ∷ cs) h = absurd h
own_beneath place [] (a ∷ arrays) cs h = absurd h
own_beneath place (w ∷ ws) [] cs h = absurd h
own_beneath place (w ∷ ws) (a ∷ arrays) [] h = absurd h

as_many : (o : WriteOptions) (i : ℕ) (rows : List Slot) (ls : List Leaf) (ws : List Way) (ps : List (List Part)) (arrays : List ArrayTree) (es : List Encoding) (gs : List ToGive) (cs : List ArrowColumn)
    → AreColumns o (map node_of ls) ps arrays es gs → AreSeen rows ws ps arrays → AreOwnColumns i ws arrays cs → length cs ≡ length ls
as_many o i rows [] [] [] [] [] [] [] h s own = refl
as_many o i rows (l ∷ ls) (w ∷ ws) (p ∷ ps) (a ∷ arrays) (x ∷ es) (g ∷ gs) (c ∷ cs) h s own = ap suc (as_many o i rows ls ws ps arrays es gs cs h.1 s.1 own.2)
as_many o i rows [] [] [] [] [] [] (c ∷ cs) h s own = absurd own
as_many o i rows [] (w ∷ ws) [] [] [] [] cs h s own = absurd s
as_many o i rows (l ∷ ls) [] (p ∷ ps) (a ∷ arrays) (x ∷ es) (g ∷ gs) cs h s own = absurd s
as_many o i rows (l ∷ ls) (w ∷ ws) (p ∷ ps) (a ∷ arrays) (x ∷ es) (g ∷ gs) [] h s own = absurd own
as_many o i rows ls ws ps arrays es gs cs h s own = absurd h

large_first : (s : Style) (rows : List Slots) (cs ds : List ArrowColumn) (ls ks : List Leaf) → SomeIsLarge s rows cs ls (map (λ c. None) cs) → SomeIsLarge s rows (cs ++ ds) (ls ++ ks) (map (λ c. None) (cs ++ ds))
large_first s rows (c ∷ cs) ds (l ∷ ls) ks (inl h) = inl h
large_first s rows (c ∷ cs) ds (l ∷ ls) ks (inr (inl h)) = inr (inl h)
large_first s rows (c ∷ cs) ds (l ∷ ls) ks (inr (inr h)) = inr (inr (large_first s rows cs ds ls ks h))
large_first s rows [] ds ls ks h = absurd h
large_first s rows (c ∷ cs) ds [] ks h = absurd h

large_rest : (s : Style) (rows : List Slots) (cs ds : List ArrowColumn) (ls ks : List Leaf) → length cs ≡ length ls → SomeIsLarge s rows ds ks (map (λ c. None) ds) → SomeIsLarge s rows (cs ++ ds) (ls ++ ks) (map (λ c. None) (cs ++ ds))
large_rest s rows [] ds [] ks e h = h
large_rest s rows (c ∷ cs) ds (l ∷ ls) ks e h = inr (inr (large_rest s rows cs ds ls ks (omega (arith, e)) h))
large_rest s rows [] ds (l ∷ ls) ks e h = absurd (omega (arith, e))
large_rest s rows (c ∷ cs) ds [] ks e h = absurd (omega (arith, e))

of_mine : (s : Style) (rows : List Slots) (cs ds : List ArrowColumn) (ls ks : List Leaf) (e : Error) → IsOfLarge s rows cs ls e → IsOfLarge s rows (cs ++ ds) (ls ++ ks) e
of_mine s rows cs ds ls ks e (inl h) = inl h
of_mine s rows cs ds ls ks e (inr h) = inr (h.0, large_first s rows cs ds ls ks h.1)

of_theirs : (s : Style) (rows : List Slots) (cs ds : List ArrowColumn) (ls ks : List Leaf) (e : Error) → length cs ≡ length ls → IsOfLarge s rows ds ks e → IsOfLarge s rows (cs ++ ds) (ls ++ ks) e
of_theirs s rows cs ds ls ks e n (inl h) = inl h
of_theirs s rows cs ds ls ks e n (inr h) = inr (h.0, large_rest s rows cs ds ls ks n h.1)

one_of_both : (ss ts : List ChunkColumn) (e : Error) → SomeRefuses RefusesColumn (ss ++ ts) e → SomeRefuses RefusesColumn ss e ⊎ SomeRefuses RefusesColumn ts e
one_of_both [] ts e h = inr h
one_of_both (s ∷ ss) ts e (inl h) = inl (inl h)
one_of_both (s ∷ ss) ts e (inr h) = later (one_of_both ss ts e h)
  where
    later : SomeRefuses RefusesColumn ss e ⊎ SomeRefuses RefusesColumn ts e → SomeRefuses RefusesColumn (s ∷ ss) e ⊎ SomeRefuses RefusesColumn ts e
    later (inl k) = inl (inr k)
    later (inr k) = inr k

-- ---- the slots of a field are slots of the field

head_of : Slots → Slot
head_of no_slots = null
head_of (slot s ss) = s

pub rest_of : Slots → Slots
rest_of no_slots = no_slots
rest_of (slot s ss) = ss

pub later_at : (ss : Slots) (j : ℕ) → slot_at ss (suc j) ≡ slot_at (rest_of ss) j
unfolding rest_of
later_at no_slots j = refl
later_at (slot s ss) j = refl

first_is : (f : Shape) (fs : Shapes) (ss : Slots) → AreOf (shape f fs) ss → IsOf f (slot_at ss 0)
first_is f fs no_slots h = absurd h
first_is f fs (slot s ss) h = h.0

rest_are : (f : Shape) (fs : Shapes) (ss : Slots) → AreOf (shape f fs) ss → AreOf fs (rest_of ss)
unfolding rest_of
rest_are f fs no_slots h = absurd h
rest_are f fs (slot s ss) h = h.1

pub each_rest : (f : Shape) (fs : Shapes) (at : Slots → Slots) (rows : List Slots) → Each (λ row. AreOf (shape f fs) (at row)) rows → Each (λ row. AreOf fs (rest_of (at row))) rows
each_rest f fs at [] h = tt
each_rest f fs at (r ∷ rows) h = (rest_are f fs (at r) h.0, each_rest f fs at rows h.1)

pub each_first : (f : Shape) (fs : Shapes) (at : Slots → Slots) (place : ℕ) (rows : List Slots) → ((row : Slots) → slot_at row place ≡ slot_at (at row) 0) → Each (λ row. AreOf (shape f fs) (at row)) rows → Each (IsOf f) (field_slots place rows)
each_first f fs at place [] e h = tt
each_first f fs at place (r ∷ rows) e h = (subst (IsOf f) (sym (e r)) (first_is f fs (at r) h.0), each_first f fs at place rows e h.1)

-- ---- none of them is a dictionary

-- the entries of an array are those of its leaves
mutual
  leaf_entries_in : (a : ArrayTree) → map leaf_entries (array_leaves a) ≡ entries_in a
  leaf_entries_in (null_array t n) = refl
  leaf_entries_in (leaf_array t vs m) = refl
  leaf_entries_in (list_array t os c m) = leaf_entries_in c
  leaf_entries_in (fixed_list_array t w n c m) = leaf_entries_in c
  leaf_entries_in (struct_array t cs m) = all_leaf_entries cs
  leaf_entries_in (dictionary_array t ks c m) = refl

  all_leaf_entries : (cs : ArrayTrees) → map leaf_entries (leaves_in cs) ≡ all_entries cs
  all_leaf_entries no_arrays = refl
  all_leaf_entries (more_arrays c cs) = map-append leaf_entries (array_leaves c) (leaves_in cs) ∙ (λ i. leaf_entries_in c i ++ all_leaf_entries cs i)

first_of : Entries → List Entries → Entries
first_of d [] = d
first_of d (x ∷ xs) = x

others_of : List Entries → List Entries
others_of [] = []
others_of (x ∷ xs) = xs

have_none : (arrays : List ArrayTree) (cs : List ArrowColumn) → map leaf_entries arrays ≡ map (λ c. None) cs → HaveNoEntries arrays
unfolding first_of others_of
have_none [] cs e = tt
have_none (a ∷ arrays) [] e = absurd cc
have_none (a ∷ arrays) (c ∷ cs) e = (ap (first_of None) e, have_none arrays cs (ap others_of e))

-- ---- field after field

all_large : TypedColumnsAreOwn → TypedSlotsAreRead → (o : WriteOptions) (rows : List Slots) (fs : FieldTrees) (cs : ArrayTrees) (ess : List (List Encoding)) (columns : List ChunkColumn) (place : ℕ) (at : Slots → Slots) (error : Error)
    → are_served_fields fs ≡ true → AreGroupColumns o cs (trees_of fs) ess columns → AreTyped fs cs
    → ((row : Slots) (j : ℕ) → slot_at row (place + j) ≡ slot_at (at row) j) → Each (λ row. AreOf (shapes_of fs) (at row)) rows → HaveLen (length rows) cs → ((j : ℕ) → tree_len (array_at j cs) ≡ length rows → field_slots (place + j) rows ≡ slots (array_at j cs))
    → SomeRefuses RefusesColumn columns error → IsOfLarge (style_of o) rows (columns_from false place fs) (leaves_of (trees_of fs)) error
all_large own read o rows no_fields no_arrays [] columns place at error served h typed e are even own_slots r = absurd (subst (λ (ss : List ChunkColumn). SomeRefuses RefusesColumn ss error) h r)
all_large own read o rows (more_fields (field name t b md) fs) (more_arrays c cs) (es ∷ ess) columns place at error served h typed e are even own_slots r =
    let f = h.3 in
    let here : place + 0 ≡ place = omega arith in
    let mine_are : field_slots place rows ≡ slots c = ap (λ (n : ℕ). field_slots n rows) (sym here) ∙ own_slots 0 even.0 in
    let of_field : Each (IsOf (type_shape b t)) (field_slots place rows) = each_first (type_shape b t) (shapes_of fs) at place rows (λ one. ap (slot_at one) (sym here) ∙ e one 0) are in
    let all : All (IsOf (type_shape b (type_of c))) (slots c) = subst (λ (x : TypeTree). All (IsOf (type_shape b x)) (slots c)) typed.0 (All-from_recursion (IsOf (type_shape b t)) (slots c) (subst (Each (IsOf (type_shape b t))) mine_are of_field)) in
    let readable : slots (read_by c (node name b t)) ≡ field_slots place rows = subst (λ (x : TypeTree). slots (read_by c (node name b x)) ≡ slots c) (sym typed.0) (read c name b f.sound all) ∙ sym mine_are in
    let along : AreAlong (ways (shape_by c (node name b t))) (array_leaves c) (type_columns b t) =
    subst (λ (x : TypeTree). AreAlong (ways (shape_by c (node name b x))) (array_leaves c) (type_columns b x)) (sym typed.0) (own c name b f.sound (subst (λ (x : TypeTree). misfit c (node name b x) ≡ None) typed.0 f.fits)) in
    let seen : AreSeen (field_slots place rows) (ways (shape_by c (node name b t))) (paths c (node name b t)) (array_leaves c) = subst (λ (xs : List Slot). AreSeen xs (ways (shape_by c (node name b t))) (paths c (node name b t)) (array_leaves c)) readable f.seen in
    let columns_are = own_beneath place (ways (shape_by c (node name b t))) (array_leaves c) (type_columns b t) along in
    let none : HaveNoEntries (array_leaves c) = have_none (array_leaves c) (type_columns b (type_of c)) (leaf_entries_in c ∙ no_entries c b f.sound (ap is_served_type (sym typed.0) ∙ served_first name t b md fs served)) in
    let many = as_many o place (field_slots place rows) (leaves (node name b t)) (ways (shape_by c (node name b t))) (paths c (node name b t)) (array_leaves c) es (map to_come h.0) (map (beneath_struct false place) (type_columns b t)) f.are seen columns_are in
    by many
    (λ k. each_large o place rows (leaves (node name b t)) (ways (shape_by c (node name b t))) (paths c (node name b t)) (array_leaves c) es h.0 (map (beneath_struct false place) (type_columns b t)) error f.are seen columns_are none k)
    (λ k. all_large own read o rows fs cs ess h.1 (suc place) (λ row. rest_of (at row)) error (served_rest name t b md fs served) h.4 typed.1
    (λ row j. ap (slot_at row) (next place j) ∙ (e row (suc j) ∙ later_at (at row) j)) (each_rest (type_shape b t) (shapes_of fs) at rows are) even.1
    (λ j q. ap (λ (n : ℕ). field_slots n rows) (next place j) ∙ own_slots (suc j) q) k)
    (one_of_both h.0 h.1 error (subst (λ (ss : List ChunkColumn). SomeRefuses RefusesColumn ss error) h.2 r))
  where
    next : (place j : ℕ) → suc place + j ≡ place + suc j
    next place j = omega arith

    by : {A B : Type 0} → length (map (beneath_struct false place) (type_columns b t)) ≡ length (leaves (node name b t))
        → (A → IsOfLarge (style_of o) rows (map (beneath_struct false place) (type_columns b t)) (leaves (node name b t)) error) → (B → IsOfLarge (style_of o) rows (columns_from false (suc place) fs) (leaves_of (trees_of fs)) error) → A ⊎ B
        → IsOfLarge (style_of o) rows (columns_from false place (more_fields (field name t b md) fs)) (leaves_of (trees_of (more_fields (field name t b md) fs))) error
    by n f g (inl k) = of_mine (style_of o) rows (map (beneath_struct false place) (type_columns b t)) (columns_from false (suc place) fs) (leaves (node name b t)) (leaves_of (trees_of fs)) error (f k)
    by n f g (inr k) = of_theirs (style_of o) rows (map (beneath_struct false place) (type_columns b t)) (columns_from false (suc place) fs) (leaves (node name b t)) (leaves_of (trees_of fs)) error n (g k)
all_large own read o rows no_fields no_arrays (es ∷ ess) columns place at error served h typed e are even own_slots r = absurd h
all_large own read o rows no_fields (more_arrays c cs) ess columns place at error served h typed e are even own_slots r = absurd typed
all_large own read o rows (more_fields (field x t y z) fs) no_arrays ess columns place at error served h typed e are even own_slots r = absurd typed
all_large own read o rows (more_fields (field x t y z) fs) (more_arrays c cs) [] columns place at error served h typed e are even own_slots r = absurd h

pub even_len : (cs : ArrayTrees) → AreEven cs → HaveLen (first_len cs) cs
even_len no_arrays h = tt
even_len (more_arrays c cs) h = (refl, h)

pub large : TypedColumnsAreOwn → TypedSlotsAreRead → LargePagesAreLarge
large own read wanted fs g error h columns r =
    let rows = chunk_rows g.chunk in
    let n : first_len g.chunk ≡ length rows = sym (length_rows g.chunk) in
    with_entries
    (all_large own read g.options rows fs g.chunk (map (λ (es : Vec Encoding Global). es.items) g.encodings.items) g.columns.items 0 (λ row. row) error h.served
    (subst (λ (ts : Trees). AreGroupColumns g.options g.chunk ts (map (λ (es : Vec Encoding Global). es.items) g.encodings.items) g.columns.items) h.trees_are columns) h.typed
    (λ row j. ap (slot_at row) (omega arith)) (recursion_from_All (AreOf (shapes_of fs)) rows h.rows_are)
    (subst (λ (k : ℕ). HaveLen k g.chunk) n (even_len g.chunk h.even))
    (λ j q. ap (λ (k : ℕ). field_slots k rows) (omega arith) ∙ field_of j g.chunk (q ∙ sym n)) r)
  where
    with_entries : IsOfLarge (style_of g.options) (chunk_rows g.chunk) (schema_columns fs) (columns_of (schema_of fs)) error → (error ≡ Memory) ⊎ ((error ≡ Overflow V3) × PieceIsTooLarge (style_of g.options) fs (chunk_rows g.chunk) (all_entries g.chunk))
    with_entries (inl m) = inl m
    with_entries (inr v) = inr (v.0, subst (λ ds. SomeIsLarge (style_of g.options) (chunk_rows g.chunk) (schema_columns fs) (columns_of (schema_of fs)) ds) (sym (entries_are_none g.chunk fs h.sound h.typed h.served)) v.1)
