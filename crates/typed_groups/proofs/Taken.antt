-- A column of a field whose type is served is refused for a wide decimal alone.
use Rattle.std.proofs.Common.{false, ◌≡◌, inl, inr, ℕ, ◌≤◌, Bool, true, true≢false, nat_eq, Option, None, Some, List, [], ◌∷◌, length, map, refl, sym, ap, subst, ◌∙◌, arith, Vec}
use Rattle.std.specs.Global.{Global}
use Rattle.std.specs.Prelude.{Contains}
use Rattle.std.proofs.lemmas.Bool.{or_left}
use Rattle.std.proofs.lemmas.List.{length-map}
use Rattle.shredding.specs.Parts.{Part, path_way}
use Rattle.shredding.specs.Along.{along, thin}
use Rattle.shredding.specs.Shape.{Way, in_struct, ways}
use Rattle.shredding.specs.Shred.{Triple, column}
use Rattle.shredding.specs.Slot.{Slot, Slots, fields, number, slot_at}
use Rattle.columns_base.specs.declared.error.Error.{Error}
use Rattle.columns_base.specs.declared.error.Error.TheVariants.{InvalidArgumentError}
use Rattle.columns_base.specs.declared.error.A.TheVariants.{A7}
use Rattle.columns_core.specs.Shapes.{base, leaf_type}
use Rattle.columns_core.specs.Tree.{TypeTree, field, FieldTrees, no_fields, more_fields}
use Rattle.columns_slots.specs.Slots.{IsSound, slots, AreTyped, type_of, count_arrays}
use Rattle.columns_slots.specs.Tree.{ArrayTree, ArrayTrees}
use Rattle.nested_paths.specs.Laws.{PathsAreSeen}
use Rattle.nested_paths.specs.Leaves.{array_leaves, leaf_node, node_of}
use Rattle.nested_paths.specs.Paths.{paths}
use Rattle.nested_paths.specs.Seen.{AreSeen, IsSeen, leaf_slot, read_by, shape_by}
use Rattle.pq_files.specs.Page.{values_in}
use Rattle.pq_files.specs.Stored.{HoldsDecimal}
use Rattle.pq_headline.specs.Columns.{ArrowColumn}
use Rattle.pq_headline.specs.Output.{IsWide, SomeIsWide}
use Rattle.pq_headline.specs.Rows.{field_slots}
use Rattle.pq_tree.specs.Physical.{Physical}
use Rattle.pq_tree.specs.Tree.{Leaf, Trees, no_trees, tree, count_trees, defines, leaves, nesting}
use Rattle.pq_tree.specs.TreeViews.{info_view, leaf_view, trees_view}
use Rattle.pq_tree.specs.Types.{Info}
use Rattle.pq_tree.specs.Views.{physical_view}
use Rattle.pq_tree.specs.declared.types.Encoding.{Encoding}
use Rattle.pq_tree.specs.declared.types.ParquetType.{ParquetType}
use Rattle.pq_tree.specs.declared.types.PrimitiveType.{PrimitiveType}
use Rattle.schema_to_tree.specs.Table.{trees_of}
use Rattle.typed_arrays.specs.Typed.{node}
use Rattle.typed_groups.proofs.LargeColumns.{map_twice, seen_rows}
use Rattle.typed_groups.proofs.Leaves.{IsServedLeaf, AreServedLeaves, are_served, goes, same_count}
use Rattle.typed_groups.proofs.Places.{is_placed}
use Rattle.typed_groups.proofs.Named.{AreNamed, IsNamed, field_named}
use Rattle.write_groups.specs.Columns.{AreSoMany, RefusesField}
use Rattle.write_pages.proofs.AlongPath.{rows_along}
use Rattle.write_pages.specs.Fits.{is_flat_path}
use Rattle.write_pages.proofs.PageTable.{is_allowed}
use Rattle.write_pages.specs.Columns.{AnyRefused}
use Rattle.write_groups.specs.Laid.{AreChosen, AreOwnColumns, field_encoding}
use Rattle.write_values.specs.Deltas.{encoding_name}
use Rattle.write_pages.proofs.WrittenForms.{served_no_keys}
use Rattle.write_pages.specs.Fits.{FitsColumn, is_keyed_in, is_written_along, is_written_as}
use Rattle.write_pages.specs.Holds.{rows_of}
use Rattle.write_pages.specs.Refused.{HasWide, IsUnwritten, RefusesPages}
use Rattle.write_pages.specs.declared.options.WriteOptions.{WriteOptions}
use Rattle.write_values.specs.Served.{is_served}

-- ---- one column

info_or : Info → Option Info → Info
info_or d (Some i) = i
info_or d None = d

same_info : (i j : Info) → ◌≡◌ {A = Option Info} (Some i) (Some j) → i ≡ j
unfolding info_or
same_info i j e = ap (info_or i) e

column_fits : (flat : Bool) (l : Leaf) (slots : List Slot) (w : Way) (parts : List Part) (a : ArrayTree) (type_ : PrimitiveType) → leaf_node type_ ≡ node_of l → IsServedLeaf flat l parts a → IsSeen slots w parts a → FitsColumn parts (rows_of parts a) (leaf_view type_) (physical_view type_.physical_type) a
column_fits flat l slots w parts a type_ e h s =
    let own : info_view type_.field_info type_.converted_type type_.logical_type ≡ h.info = same_info _ _ (ap (λ n. n.0) e ∙ h.last) in
    let physical : physical_view type_.physical_type ≡ l.physical = ap (λ n. n.1) e in
    record {
      array = s.leaf;
      physical = is_allowed (is_flat_path parts) (base (type_of a)) (physical_view type_.physical_type) h.along (ap (is_served (base (type_of a))) physical ∙ h.served);
      optional = ap (λ (i : Info). nat_eq (defines i.repetition) 1) own ∙ h.optional;
      reached = rows_along (leaf_slot a) parts s.in_bounds h.here;
    }

not_unwritten : (parts : List Part) (t : TypeTree) (p : Physical) (e : Encoding) → is_written_as e t p ≡ true → ¬ IsUnwritten parts t p e
not_unwritten parts t p e w d = true≢false (sym w ∙ d.1)

-- what is seen of field i, and is wide, is wide in the schema's column
wide_column :
    (l : Leaf) (c : ArrowColumn) (i : ℕ) (w : Way) (rows : List Slots) (parts : List Part) (a : ArrayTree) (type_ : PrimitiveType)
    → leaf_node type_ ≡ node_of l → IsSeen (field_slots i rows) w parts a → c.way ≡ in_struct false i w → leaf_type (type_of a) ≡ leaf_type c.data_type
    → HasWide (leaf_type (type_of a)) (physical_view type_.physical_type) (column (path_way parts) (rows_of parts a)) → IsWide c l rows
wide_column l c i w rows parts a type_ e s way kind h =
    let f : Slots → Slot = λ row. along w (slot_at row i) in
    let here : rows_of parts a ≡ map f rows = s.slots ∙ map_twice (along w) (λ row. slot_at row i) rows in
    let same : column (path_way parts) (rows_of parts a) ≡ column c.way (map fields rows) =
    ap (λ (x : Way). column x (rows_of parts a)) s.way ∙ (ap (column (thin w)) here ∙ (seen_rows w i rows ∙ ap (λ (x : Way). column x (map fields rows)) (sym way))) in
    (sym kind ∙ h.0, h.1, subst (λ (ts : List Triple). Contains (values_in ts) (number h.1)) same h.2, subst (λ (p : Physical). ¬ HoldsDecimal p h.1) (ap (λ n. n.1) e) h.3)

-- a column is refused for a wide decimal alone
only_wide :
    (flat : Bool) (o : WriteOptions) (l : Leaf) (c : ArrowColumn) (i : ℕ) (w : Way) (rows : List Slots) (parts : List Part) (a : ArrayTree) (type_ : PrimitiveType) (named : Leaf → Encoding) (error : Error)
    → IsNamed l a named → leaf_node type_ ≡ node_of l → IsServedLeaf flat l parts a → IsSeen (field_slots i rows) w parts a → c.way ≡ in_struct false i w → leaf_type (type_of a) ≡ leaf_type c.data_type
    → RefusesPages o type_ parts a (named l) error → (error ≡ InvalidArgumentError A7) × IsWide c l rows
only_wide flat o l c i w rows parts a type_ named error n e h s way kind (inl r) =
    let physical : l.physical ≡ physical_view type_.physical_type = sym (ap (λ k. k.1) e) in
    absurd
    (elim r.1 [
      | inl k ↦ true≢false (sym k.0 ∙ served_no_keys (base (type_of a)) l.physical h.served)
      | inr v ↦ not_unwritten parts (type_of a) (physical_view type_.physical_type) (named l) (subst (λ (p : Physical). is_written_as (named l) (type_of a) p ≡ true) physical (n h.own h.served)) v.1
    ])
only_wide flat o l c i w rows parts a type_ named error n e h s way kind (inr (inl r)) = absurd (true≢false (sym (or_left (is_written_along parts a) (is_keyed_in (is_flat_path parts) (base (type_of a))) h.along) ∙ r.2))
only_wide flat o l c i w rows parts a type_ named error n e h s way kind (inr (inr (inl r))) = absurd (r.3 (s.in_bounds, column_fits flat l (field_slots i rows) w parts a type_ e h s, λ k. absurd (true≢false (sym k ∙ served_no_keys (base (type_of a)) l.physical h.served))))
only_wide flat o l c i w rows parts a type_ named error n e h s way kind (inr (inr (inr r))) = (r.0, wide_column l c i w rows parts a type_ e s way kind r.2)

-- ---- one field

-- one of the columns has a wide decimal
abbrev pub IsOfWide : List Slots → List ArrowColumn → List Leaf → Error → Type 0
IsOfWide rows cs ls e = (e ≡ InvalidArgumentError A7) × SomeIsWide cs ls rows

any_wide :
    (flat : Bool) (o : WriteOptions) (i : ℕ) (rows : List Slots) (ls : List Leaf) (ws : List Way) (ps : List (List Part)) (arrays : List ArrayTree) (cs : List ArrowColumn) (named : Leaf → Encoding) (error : Error)
    → AreNamed ls arrays named → AreServedLeaves flat ls ps arrays → AreSeen (field_slots i rows) ws ps arrays → AreOwnColumns i ws arrays cs → AnyRefused o (map node_of ls) ps arrays (map named ls) error → IsOfWide rows cs ls error
any_wide flat o i rows [] ws ps arrays cs named error n h s own r = absurd r
any_wide flat o i rows (l ∷ ls) (w ∷ ws) (p ∷ ps) (a ∷ arrays) (c ∷ cs) named error n h s own (inl r) = let k = only_wide flat o l c i w rows p a r.0 named error n.0 r.1 h.0 s.0 own.0 own.1 r.2 in (k.0, inl k.1)
any_wide flat o i rows (l ∷ ls) (w ∷ ws) (p ∷ ps) (a ∷ arrays) (c ∷ cs) named error n h s own (inr r) = let k = any_wide flat o i rows ls ws ps arrays cs named error n.1 h.1 s.1 own.2 r in (k.0, inr k.1)
any_wide flat o i rows (l ∷ ls) (w ∷ ws) (p ∷ ps) (a ∷ arrays) [] named error n h s own r = absurd own
any_wide flat o i rows (l ∷ ls) [] (p ∷ ps) (a ∷ arrays) cs named error n h s own r = absurd s
any_wide flat o i rows (l ∷ ls) ws [] arrays cs named error n h s own r = absurd r
any_wide flat o i rows (l ∷ ls) ws (p ∷ ps) [] cs named error n h s own r = absurd r

some_none : (e : Error) → ◌≡◌ {A = Option Error} None (Some e) → ⊥
some_none e h = cc

-- the field at a place, whose array has a type in its place
pub field_wide :
    PathsAreSeen → (wanted : Bool) (o : WriteOptions) (a : ArrayTree) (name : List ℕ) (b : Bool) (es : List Encoding) (i : ℕ) (rows : List Slots) (cs : List ArrowColumn) (error : Error)
    → IsSound a → is_placed true b (type_of a) ≡ true → nesting (node name b (type_of a)) ≤ 128 → es ≡ map (λ l. encoding_name (field_encoding wanted (type_of a) l)) (leaves (node name b (type_of a)))
    → slots (read_by a (node name b (type_of a))) ≡ field_slots i rows → AreOwnColumns i (ways (shape_by a (node name b (type_of a)))) (array_leaves a) cs
    → RefusesField o a (node name b (type_of a)) es error → IsOfWide rows cs (leaves (node name b (type_of a))) error
field_wide law wanted o a name b es i rows cs error sound s deep asks read own (inl r) = absurd (omega (arith, deep, r.1))
field_wide law wanted o a name b es i rows cs error sound s deep asks read own (inr (inl r)) = absurd (some_none error (sym (goes true a name b sound s) ∙ r))
field_wide law wanted o a name b es i rows cs error sound s deep asks read own (inr (inr (inl r))) = absurd (r.1 (ap length asks ∙ length-map (leaves (node name b (type_of a))) (λ l. encoding_name (field_encoding wanted (type_of a) l))))
field_wide law wanted o a name b es i rows cs error sound s deep asks read own (inr (inr (inr r))) =
    let t = node name b (type_of a) in
    any_wide true o i rows (leaves t) (ways (shape_by a t)) (paths a t) (array_leaves a) cs (λ l. encoding_name (field_encoding wanted (type_of a) l)) error (field_named wanted (leaves t) a sound) (are_served true a name b sound s)
    (subst (λ (xs : List Slot). AreSeen xs (ways (shape_by a t)) (paths a t) (array_leaves a)) read (law a t sound (goes true a name b sound s))) own
    (subst (λ (xs : List Encoding). AnyRefused o (map node_of (leaves t)) (paths a t) (array_leaves a) xs error) asks r)

-- ---- as many

asked_count : (wanted : Bool) (fs : FieldTrees) (ts : Trees) (ess : List (List Encoding)) → AreChosen wanted fs ts ess → length ess ≡ count_trees ts
asked_count wanted no_fields no_trees [] h = refl
asked_count wanted (more_fields (field n t b m) fs) (tree u ts) (es ∷ ess) h = omega (arith, asked_count wanted fs ts ess h.1)
asked_count wanted no_fields no_trees (es ∷ ess) h = absurd h
asked_count wanted no_fields (tree u ts) ess h = absurd h
asked_count wanted (more_fields (field n t b m) fs) no_trees ess h = absurd h
asked_count wanted (more_fields (field n t b m) fs) (tree u ts) [] h = absurd h

viewed_count : (ts : List ParquetType) → count_trees (trees_view ts) ≡ length ts
viewed_count [] = refl
viewed_count (t ∷ ts) = omega (arith, viewed_count ts)

-- There are as many lists of encodings and as many trees as arrays.
pub as_many : (wanted : Bool) (fs : FieldTrees) (chunk : ArrayTrees) (encodings : List (Vec Encoding Global)) (trees : List ParquetType) → AreTyped fs chunk → trees_view trees ≡ trees_of fs
    → AreChosen wanted fs (trees_of fs) (map (λ (es : Vec Encoding Global). es.items) encodings) → AreSoMany chunk (length encodings) (length trees)
as_many wanted fs chunk encodings trees typed view asks =
    let lists = map (λ (es : Vec Encoding Global). es.items) encodings in
    let many : count_arrays chunk ≡ count_trees (trees_of fs) = same_count fs chunk typed in (
      sym (length-map encodings (λ (es : Vec Encoding Global). es.items)) ∙ (asked_count wanted fs (trees_of fs) lists asks ∙ sym many),
      sym (viewed_count trees) ∙ (ap count_trees view ∙ sym many),
    )
