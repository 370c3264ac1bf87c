-- A chunk that suits is refused for a wide decimal alone.
use Rattle.std.proofs.Common.{◌≡◌, ◌⊎◌, inl, inr, ℕ, suc, ◌+◌, ◌≤◌, Bool, false, true, List, [], ◌∷◌, ◌++◌, length, map, All, refl, sym, ap, subst, ◌∙◌, arith, Vec}
use Rattle.std.specs.Global.{Global}
use Rattle.std.specs.List.{AllByRecursion as Each}
use Rattle.std.proofs.lemmas.List.Elements.{All-from_recursion, recursion_from_All}
use Rattle.shredding.specs.Parts.{Part}
use Rattle.shredding.specs.Shape.{IsOf, AreOf, Way, ways}
use Rattle.shredding.specs.Slot.{Slots, slot_at}
use Rattle.columns_array.specs.Chunks.{HaveLen}
use Rattle.columns_base.specs.declared.error.Error.{Error}
use Rattle.columns_core.specs.Shapes.{shapes_of, type_shape}
use Rattle.columns_core.specs.Tree.{TypeTree, field, FieldTrees, no_fields, more_fields}
use Rattle.columns_slots.specs.Slots.{slots, tree_len, first_len, AreTyped, type_of}
use Rattle.columns_slots.specs.Tree.{ArrayTree, ArrayTrees, no_arrays, more_arrays}
use Rattle.nested_paths.specs.Laws.{PathsAreSeen}
use Rattle.nested_paths.specs.Leaves.{array_leaves}
use Rattle.nested_paths.specs.Seen.{read_by, shape_by}
use Rattle.pq_headline.proofs.RowsOf.{field_of, length_rows}
use Rattle.pq_headline.specs.Arrays.{array_at, rows_of as chunk_rows}
use Rattle.pq_headline.specs.Columns.{ArrowColumn, beneath_struct, type_columns, columns_from}
use Rattle.pq_headline.specs.Output.{SomeIsWide}
use Rattle.pq_headline.specs.Rows.{field_slots}
use Rattle.pq_tree.specs.Tree.{Leaf, Trees, leaves, leaves_of, nesting, nesting_of}
use Rattle.pq_tree.specs.TreeViews.{trees_view}
use Rattle.pq_tree.specs.declared.types.Encoding.{Encoding}
use Rattle.schema_to_tree.specs.Table.{trees_of}
use Rattle.typed_arrays.specs.Typed.{AreAlong, TypedColumnsAreOwn, TypedSlotsAreRead, node}
use Rattle.typed_groups.proofs.Large.{each_first, each_rest, even_len, later_at, own_beneath, rest_of}
use Rattle.typed_groups.proofs.Leaves.{AreServedLeaves, are_served, goes}
use Rattle.typed_groups.proofs.Places.{AreInPlace, all_in_place, is_placed}
use Rattle.typed_groups.proofs.Taken.{IsOfWide, as_many, field_wide}
use Rattle.typed_groups.specs.Suiting.{AreAllSound, SuitingChunksAreTaken}
use Rattle.write_groups.specs.Columns.{RefusesField, RefusesFields}
use Rattle.write_groups.specs.Laid.{AreChosen, AreOwnColumns, field_encoding}
use Rattle.write_pages.specs.declared.options.WriteOptions.{WriteOptions}
use Rattle.write_values.specs.Deltas.{encoding_name}

-- ---- the columns of one field among those of all

wide_first : (rows : List Slots) (cs ds : List ArrowColumn) (ls ks : List Leaf) → SomeIsWide cs ls rows → SomeIsWide (cs ++ ds) (ls ++ ks) rows
wide_first rows (c ∷ cs) ds (l ∷ ls) ks (inl h) = inl h
wide_first rows (c ∷ cs) ds (l ∷ ls) ks (inr h) = inr (wide_first rows cs ds ls ks h)
wide_first rows [] ds ls ks h = absurd h
wide_first rows (c ∷ cs) ds [] ks h = absurd h

wide_rest : (rows : List Slots) (cs ds : List ArrowColumn) (ls ks : List Leaf) → length cs ≡ length ls → SomeIsWide ds ks rows → SomeIsWide (cs ++ ds) (ls ++ ks) rows
wide_rest rows [] ds [] ks e h = h
wide_rest rows (c ∷ cs) ds (l ∷ ls) ks e h = inr (wide_rest rows cs ds ls ks (omega (arith, e)) h)
wide_rest rows [] ds (l ∷ ls) ks e h = absurd (omega (arith, e))
wide_rest rows (c ∷ cs) ds [] ks e h = absurd (omega (arith, e))

leaf_count : (flat : Bool) (ls : List Leaf) (ps : List (List Part)) (arrays : List ArrayTree) → AreServedLeaves flat ls ps arrays → length arrays ≡ length ls
leaf_count flat [] [] [] h = refl
leaf_count flat (l ∷ ls) (p ∷ ps) (a ∷ arrays) h = ap suc (leaf_count flat ls ps arrays h.1)
leaf_count flat [] [] (a ∷ arrays) h = absurd h
leaf_count flat [] (p ∷ ps) arrays h = absurd h
leaf_count flat (l ∷ ls) [] arrays h = absurd h
leaf_count flat (l ∷ ls) (p ∷ ps) [] h = absurd h

column_count : (i : ℕ) (ws : List Way) (arrays : List ArrayTree) (cs : List ArrowColumn) → AreOwnColumns i ws arrays cs → length cs ≡ length arrays
column_count i [] [] [] h = refl
column_count i (w ∷ ws) (a ∷ arrays) (c ∷ cs) h = ap suc (column_count i ws arrays cs h.2)
column_count i [] [] (c ∷ cs) h = absurd h
column_count i [] (a ∷ arrays) cs h = absurd h
column_count i (w ∷ ws) [] cs h = absurd h
column_count i (w ∷ ws) (a ∷ arrays) [] h = absurd h

-- ---- field after field

module _ (seen : PathsAreSeen) (own : TypedColumnsAreOwn) (read : TypedSlotsAreRead) (wanted : Bool) (o : WriteOptions) (rows : List Slots) where
  all_wide :
      (fs : FieldTrees) (cs : ArrayTrees) (ess : List (List Encoding)) (place : ℕ) (at : Slots → Slots) (error : Error)
      → AreAllSound cs → AreTyped fs cs → AreInPlace fs → nesting_of (trees_of fs) ≤ 128 → AreChosen wanted fs (trees_of fs) ess
      → ((row : Slots) (j : ℕ) → slot_at row (place + j) ≡ slot_at (at row) j) → Each (λ row. AreOf (shapes_of fs) (at row)) rows → HaveLen (length rows) cs → ((j : ℕ) → tree_len (array_at j cs) ≡ length rows → field_slots (place + j) rows ≡ slots (array_at j cs))
      → RefusesFields o cs (trees_of fs) ess error → IsOfWide rows (columns_from false place fs) (leaves_of (trees_of fs)) error
  all_wide no_fields no_arrays ess place at error sound typed s deep asks e are even own_slots r = absurd r
  all_wide (more_fields (field name t b md) fs) (more_arrays c cs) (es ∷ ess) place at error sound typed s deep asks e are even own_slots r =
      let here : place + 0 ≡ place = omega arith in
      let mine_are : field_slots place rows ≡ slots c = ap (λ (n : ℕ). field_slots n rows) (sym here) ∙ own_slots 0 even.0 in
      let of_field : Each (IsOf (type_shape b t)) (field_slots place rows) = each_first (type_shape b t) (shapes_of fs) at place rows (λ one. ap (slot_at one) (sym here) ∙ e one 0) are in
      let all : All (IsOf (type_shape b (type_of c))) (slots c) = subst (λ (x : TypeTree). All (IsOf (type_shape b x)) (slots c)) typed.0 (All-from_recursion (IsOf (type_shape b t)) (slots c) (subst (Each (IsOf (type_shape b t))) mine_are of_field)) in
      let readable : slots (read_by c (node name b (type_of c))) ≡ field_slots place rows = read c name b sound.0 all ∙ sym mine_are in
      let placed : is_placed true b (type_of c) ≡ true = ap (is_placed true b) (sym typed.0) ∙ s.0 in
      let along : AreAlong (ways (shape_by c (node name b (type_of c)))) (array_leaves c) (type_columns b (type_of c)) = own c name b sound.0 (goes true c name b sound.0 placed) in
      let columns_are = own_beneath place (ways (shape_by c (node name b (type_of c)))) (array_leaves c) (type_columns b (type_of c)) along in
      let many : length (map (beneath_struct false place) (type_columns b (type_of c))) ≡ length (leaves (node name b (type_of c))) =
      column_count place _ (array_leaves c) _ columns_are ∙ leaf_count true _ _ (array_leaves c) (are_served true c name b sound.0 placed) in
      by (subst (λ (x : TypeTree). length (map (beneath_struct false place) (type_columns b x)) ≡ length (leaves (node name b x))) (sym typed.0) many)
      (subst (λ (x : TypeTree). nesting (node name b x) ≤ 128 → es ≡ map (λ l. encoding_name (field_encoding wanted x l)) (leaves (node name b x)) → RefusesField o c (node name b x) es error → IsOfWide rows (map (beneath_struct false place) (type_columns b x)) (leaves (node name b x)) error) (sym typed.0)
      (λ d q k. field_wide seen wanted o c name b es place rows (map (beneath_struct false place) (type_columns b (type_of c))) error sound.0 placed d q readable columns_are k) (omega (arith, deep)) asks.0)
      (λ k. all_wide fs cs ess (suc place) (λ row. rest_of (at row)) error sound.1 typed.1 s.1 (omega (arith, deep)) asks.1
      (λ row j. ap (slot_at row) (next place j) ∙ (e row (suc j) ∙ later_at (at row) j)) (each_rest (type_shape b t) (shapes_of fs) at rows are) even.1
      (λ j q. ap (λ (n : ℕ). field_slots n rows) (next place j) ∙ own_slots (suc j) q) k)
      r
    where
      next : (place j : ℕ) → suc place + j ≡ place + suc j
      next place j = omega arith

      by : {A B : Type 0} → length (map (beneath_struct false place) (type_columns b t)) ≡ length (leaves (node name b t))
          → (A → IsOfWide rows (map (beneath_struct false place) (type_columns b t)) (leaves (node name b t)) error) → (B → IsOfWide rows (columns_from false (suc place) fs) (leaves_of (trees_of fs)) error) → A ⊎ B
          → IsOfWide rows (columns_from false place (more_fields (field name t b md) fs)) (leaves_of (trees_of (more_fields (field name t b md) fs))) error
      by n f g (inl k) = let w = f k in (w.0, wide_first rows (map (beneath_struct false place) (type_columns b t)) (columns_from false (suc place) fs) (leaves (node name b t)) (leaves_of (trees_of fs)) w.1)
      by n f g (inr k) = let w = g k in (w.0, wide_rest rows (map (beneath_struct false place) (type_columns b t)) (columns_from false (suc place) fs) (leaves (node name b t)) (leaves_of (trees_of fs)) n w.1)
  all_wide no_fields (more_arrays c cs) ess place at error sound typed s deep asks e are even own_slots r = absurd typed
  all_wide (more_fields (field x t y z) fs) no_arrays ess place at error sound typed s deep asks e are even own_slots r = absurd typed
  all_wide (more_fields (field x t y z) fs) (more_arrays c cs) [] place at error sound typed s deep asks e are even own_slots r = absurd asks

pub taken : PathsAreSeen → TypedColumnsAreOwn → TypedSlotsAreRead → SuitingChunksAreTaken
taken seen own read wanted fs o chunk encodings trees h =
    let view : trees_view trees ≡ trees_of fs = h.trees_are in
    let lists = map (λ (es : Vec Encoding Global). es.items) encodings in
    let asks : AreChosen wanted fs (trees_of fs) lists = subst (λ (ts : Trees). AreChosen wanted fs ts lists) view h.encodings in
    let rows = chunk_rows chunk in
    let n : first_len chunk ≡ length rows = sym (length_rows chunk) in
    record {
      counts = as_many wanted fs chunk encodings trees h.typed view asks;
      wide = λ error r.
          all_wide seen own read wanted o rows fs chunk lists 0 (λ row. row) error h.sound h.typed (all_in_place fs h.held h.served) (omega (arith, h.written.tree_nesting)) asks
          (λ row j. ap (slot_at row) (omega arith)) (recursion_from_All (AreOf (shapes_of fs)) rows h.rows_are)
          (subst (λ (k : ℕ). HaveLen k chunk) n (even_len chunk h.even))
          (λ j q. ap (λ (k : ℕ). field_slots k rows) (omega arith) ∙ field_of j chunk (q ∙ sym n))
          (subst (λ (ts : Trees). RefusesFields o chunk ts lists error) view r);
    }
