-- The leaves of an array whose type is served, and nothing that stands against them.
use Rattle.std.proofs.Common.{◌≡◌, ℕ, ◌==◌, Bool, true, false, true≢false, cond, nat_eq, Option, None, Some, List, [], ◌∷◌, ◌++◌, map, refl, sym, ap, subst, ◌∙◌, arith, append-nil, eq-eqb}
use Rattle.std.proofs.lemmas.Bool.{and_parts, or_left}
use Rattle.std.specs.Prelude.{◌&&◌, ◌||◌}
use Rattle.shredding.specs.Along.{IsAlong}
use Rattle.shredding.specs.Parts.{Part, leaf_part}
use Rattle.shredding.specs.Shape.{at_leaf}
use Rattle.columns_base.specs.declared.error.Error.{Error}
use Rattle.columns_core.specs.Shapes.{base}
use Rattle.columns_core.specs.Tree.{TypeTree, field, FieldTrees, no_fields, more_fields}
use Rattle.columns_slots.specs.Slots.{IsSound, AreSound, AreTyped, tree_len, type_of, first_len, count_arrays}
use Rattle.columns_slots.specs.Tree.{Mask, ArrayTree, null_array, leaf_array, list_array, fixed_list_array, struct_array, dictionary_array, ArrayTrees, no_arrays, more_arrays}
use Rattle.columns_slots.specs.Types.{part_types}
use Rattle.nested_paths.specs.Leaves.{array_leaves, leaves_in}
use Rattle.nested_paths.specs.Nodes.{given, is_optional, item_node, field_nodes}
use Rattle.nested_paths.specs.PathLeaf.{is_leaf_optional}
use Rattle.nested_paths.specs.Paths.{misfit, misfits, differs, counted, first_of_two, below, part_at, paths, paths_in}
use Rattle.nested_paths.specs.Seen.{leaf_slot}
use Rattle.pq_headline.specs.Served.{is_served_type, are_served_fields}
use Rattle.pq_tree.specs.Columns.{last_of}
use Rattle.pq_tree.specs.Options.{or_else}
use Rattle.pq_tree.specs.Tree.{Leaf, Tree, leaf, group, Trees, count_trees, defines, leaves, leaves_of, under}
use Rattle.pq_tree.specs.Types.{Info}
use Rattle.schema_to_tree.specs.Table.{one, stored_as, trees_of}
use Rattle.typed_arrays.specs.Typed.{node}
use Rattle.typed_groups.proofs.Nodes.{LeafNode, leaf_is, leaf_node_is, list_is, struct_is, parts_placed, placed_nullable, placed_served, values_leaves, nulls_leaves, nulls_optional, fixed_unserved, keys_unserved}
use Rattle.typed_groups.proofs.Places.{is_placed, are_placed}
use Rattle.write_pages.proofs.AlongPath.{AreOfLeaf}
use Rattle.write_pages.proofs.PageTable.{written_along}
use Rattle.write_pages.specs.Fits.{is_written, is_written_along, is_written_flat, is_written_in}
use Rattle.write_values.specs.Served.{is_served}

-- ---- array and tree go together

pub same_count : (fs : FieldTrees) (cs : ArrayTrees) → AreTyped fs cs → count_arrays cs ≡ count_trees (trees_of fs)
same_count no_fields no_arrays h = refl
same_count (more_fields (field n t b m) fs) (more_arrays c cs) h = omega (arith, same_count fs cs h.1)
same_count no_fields (more_arrays c cs) h = absurd h
same_count (more_fields (field n t b m) fs) no_arrays h = absurd h

both_none : (x y : Option Error) → x ≡ None → y ≡ None → first_of_two x y ≡ None
both_none None y e f = f
both_none (Some x) y e f = e

by_count : (k : Bool) (x : Option Error) → k ≡ true → x ≡ None → cond k x differs ≡ None
by_count true x e f = f
by_count false x e f = absurd cc

pub served_first : (n : List ℕ) (t : TypeTree) (b : Bool) (m : List _) (fs : FieldTrees) → are_served_fields (more_fields (field n t b m) fs) ≡ true → is_served_type t ≡ true
served_first n t b m fs s = (and_parts (is_served_type t) (are_served_fields fs) s).0

pub served_rest : (n : List ℕ) (t : TypeTree) (b : Bool) (m : List _) (fs : FieldTrees) → are_served_fields (more_fields (field n t b m) fs) ≡ true → are_served_fields fs ≡ true
served_rest n t b m fs s = (and_parts (is_served_type t) (are_served_fields fs) s).1

placed_first : (n : List ℕ) (t : TypeTree) (b : Bool) (m : List _) (fs : FieldTrees) → are_placed (more_fields (field n t b m) fs) ≡ true → is_placed false b t ≡ true
placed_first n t b m fs s = (and_parts (is_placed false b t) (are_placed fs) s).0

placed_rest : (n : List ℕ) (t : TypeTree) (b : Bool) (m : List _) (fs : FieldTrees) → are_placed (more_fields (field n t b m) fs) ≡ true → are_placed fs ≡ true
placed_rest n t b m fs s = (and_parts (is_placed false b t) (are_placed fs) s).1

mutual
  pub goes : (flat : Bool) (a : ArrayTree) (name : List ℕ) (b : Bool) → IsSound a → is_placed flat b (type_of a) ≡ true → misfit a (node name b (type_of a)) ≡ None
  goes flat (null_array t n) name b h s = ap (λ (k : Bool). cond k None differs) (leaf_node_is name b t (nulls_leaves (base t) h))
  goes flat (leaf_array t vs m) name b h s = ap (λ (k : Bool). cond k None differs) (leaf_node_is name b t (values_leaves (base t) h.1))
  goes flat (dictionary_array t ks c m) name b h s = absurd (keys_unserved t (type_of c) h.2 (placed_served flat b t s))
  goes flat (fixed_list_array t w n c m) name b h s = absurd (fixed_unserved t (type_of c) h.3 (placed_served flat b t s))
  goes flat (list_array t os c m) name b h s =
      let p = list_is name b t (type_of c) h.3 in
      ap (λ (o : Option Tree). given differs (misfit c) o) p.item ∙ goes false c p.item_name p.is_nullable h.2 (p.placed flat s)
  goes flat (struct_array t cs m) name b h s =
      let p = struct_is name b t cs h.3 h.2 in
      ap (λ (o : Option Trees). given differs (counted (count_arrays cs) (misfits cs)) o) p.nodes
      ∙ by_count (count_arrays cs == count_trees (trees_of (part_types (base t)))) (misfits cs (trees_of (part_types (base t)))) (eq-eqb (count_arrays cs) (count_trees (trees_of (part_types (base t)))) (same_count (part_types (base t)) cs h.2)) (all_go cs (part_types (base t)) (first_len cs) h.0 h.2 (parts_placed flat b t s))

  all_go : (cs : ArrayTrees) (fs : FieldTrees) (n : ℕ) → AreSound n cs → AreTyped fs cs → are_placed fs ≡ true → misfits cs (trees_of fs) ≡ None
  all_go no_arrays no_fields n h typed s = refl
  all_go (more_arrays c cs) (more_fields (field name t b m) fs) n h typed s =
      both_none (misfit c (node name b t)) (misfits cs (trees_of fs))
      (subst (λ (x : TypeTree). misfit c (node name b x) ≡ None) (sym typed.0) (goes false c name b h.0 (ap (is_placed false b) (sym typed.0) ∙ placed_first name t b m fs s)))
      (all_go cs fs n h.2 typed.1 (placed_rest name t b m fs s))
  all_go no_arrays (more_fields (field x t y z) fs) n h typed s = absurd typed
  all_go (more_arrays c cs) no_fields n h typed s = absurd typed

-- ---- leaves

-- A leaf array in its place, the leaf of its tree, and its path: a column of its own, or beneath lists or structs.
pub record IsServedLeaf (flat : Bool) (l : Leaf) (parts : List Part) (a : ArrayTree) : Type 0 where
  pub along : is_written_along parts a ≡ true
  pub anywhere : flat ≡ false → is_written (base (type_of a)) ≡ true
  pub served : is_served (base (type_of a)) l.physical ≡ true
  pub own : l.physical ≡ (stored_as (base (type_of a))).physical
  pub info : Info
  pub last : last_of l.path ≡ Some info
  pub optional : nat_eq (defines info.repetition) 1 ≡ is_leaf_optional parts
  pub here : AreOfLeaf (leaf_slot a) parts

abbrev pub AreServedLeaves : Bool → List Leaf → List (List Part) → List ArrayTree → Type 0
AreServedLeaves flat [] [] [] = Unit {0}
AreServedLeaves flat (l ∷ ls) (p ∷ ps) (a ∷ arrays) = IsServedLeaf flat l p a × AreServedLeaves flat ls ps arrays
AreServedLeaves flat _ _ _ = ⊥

last_under : (info i : Info) (path : List Info) → last_of path ≡ Some info → last_of (i ∷ path) ≡ Some info
last_under info i [] e = absurd cc
last_under info i (j ∷ path) e = ap (λ (o : Option Info). or_else o (Some i)) e

served_under : (i : Info) (ls : List Leaf) (ps : List (List Part)) (arrays : List ArrayTree) → AreServedLeaves false ls ps arrays → AreServedLeaves false (map (under i) ls) ps arrays
served_under i [] [] [] h = tt
served_under i (l ∷ ls) (p ∷ ps) (a ∷ arrays) h =
    let r = h.0 in
    (record { along = r.along; anywhere = r.anywhere; served = r.served; own = r.own; info = r.info; last = last_under r.info i l.path r.last; optional = r.optional; here = r.here }, served_under i ls ps arrays h.1)
served_under i [] [] (a ∷ arrays) h = absurd h
served_under i [] (p ∷ ps) arrays h = absurd h
served_under i (l ∷ ls) [] arrays h = absurd h
served_under i (l ∷ ls) (p ∷ ps) [] h = absurd h

-- a part above that is no leaf
below_served : (part : Part) (ls : List Leaf) (ps : List (List Part)) (arrays : List ArrayTree) → ((path : List Part) → is_leaf_optional (part ∷ path) ≡ is_leaf_optional path) → AreServedLeaves false ls ps arrays → AreServedLeaves false ls (below (part ∷ []) ps) arrays
below_served part [] [] [] e h = tt
below_served part (l ∷ ls) (p ∷ ps) (a ∷ arrays) e h =
    let r = h.0 in
    (record { along = written_along (part ∷ p) a (r.anywhere refl); anywhere = r.anywhere; served = r.served; own = r.own; info = r.info; last = r.last; optional = r.optional ∙ sym (e p); here = λ i. subst (λ (k : Bool). IsAlong (at_leaf k) (leaf_slot a i)) (sym (e p)) (r.here i) }, below_served part ls ps arrays e h.1)
below_served part [] [] (a ∷ arrays) e h = absurd h
below_served part [] (p ∷ ps) arrays e h = absurd h
below_served part (l ∷ ls) [] arrays e h = absurd h
below_served part (l ∷ ls) (p ∷ ps) [] e h = absurd h

both_served : (ls ks : List Leaf) (ps qs : List (List Part)) (xs ys : List ArrayTree) → AreServedLeaves false ls ps xs → AreServedLeaves false ks qs ys → AreServedLeaves false (ls ++ ks) (ps ++ qs) (xs ++ ys)
both_served [] ks [] qs [] ys h g = g
both_served (l ∷ ls) ks (p ∷ ps) qs (x ∷ xs) ys h g = (h.0, both_served ls ks ps qs xs ys h.1 g)
both_served [] ks [] qs (x ∷ xs) ys h g = absurd h
both_served [] ks (p ∷ ps) qs xs ys h g = absurd h
both_served (l ∷ ls) ks [] qs xs ys h g = absurd h
both_served (l ∷ ls) ks (p ∷ ps) qs [] ys h g = absurd h

-- the leaves of a group over a group over one node
over_leaves : (i j : Info) (t : Tree) → leaves (group i (one (group j (one t)))) ≡ map (under i) (map (under j) (leaves t))
over_leaves i j t = ap (map (under i)) (append-nil (map (under j) (leaves t ++ [])) ∙ ap (map (under j)) (append-nil (leaves t)))

-- of a leaf alone
in_any_column : (flat : Bool) (t : TypeTree) → is_written_in flat t ≡ true → flat ≡ false → is_written t ≡ true
in_any_column true t w e = absurd (true≢false e)
in_any_column false t w e = sym (or-false (is_written t)) ∙ w
  where
    or-false : (b : Bool) → (b || false) ≡ b
    or-false true = refl
    or-false false = refl

in_own_column : (flat : Bool) (t : TypeTree) → is_written_in flat t ≡ true → is_written_in true t ≡ true
in_own_column true t w = w
in_own_column false t w = or_left (is_written t) (true && is_written_flat t) (in_any_column false t w refl)

of_leaf : (flat : Bool) (name : List ℕ) (b : Bool) (a : ArrayTree) (m : Mask) (k : ℕ) (n : Tree) (p : LeafNode flat name b (type_of a)) → n ≡ leaf p.info p.physical → AreOfLeaf (leaf_slot a) (leaf_part (is_optional n) m k ∷ []) → AreServedLeaves flat (leaves n) ((leaf_part (is_optional n) m k ∷ []) ∷ []) (a ∷ [])
of_leaf flat name b a m k n p e here =
    let t = base (type_of a) in
    subst (λ (x : Tree). AreOfLeaf (leaf_slot a) (leaf_part (is_optional x) m k ∷ []) → AreServedLeaves flat (leaves x) ((leaf_part (is_optional x) m k ∷ []) ∷ []) (a ∷ [])) (sym e)
    (λ h. (record { along = in_own_column flat t p.written; anywhere = in_any_column flat t p.written; served = p.served; own = p.own; info = p.info; last = refl; optional = refl; here = h }, tt)) here

-- what is in any column is in its own too
in_either : (flat : Bool) (ls : List Leaf) (ps : List (List Part)) (arrays : List ArrayTree) → AreServedLeaves false ls ps arrays → AreServedLeaves flat ls ps arrays
in_either flat [] [] [] h = tt
in_either flat (l ∷ ls) (p ∷ ps) (a ∷ arrays) h =
    let r = h.0 in
    (record { along = r.along; anywhere = λ e. r.anywhere refl; served = r.served; own = r.own; info = r.info; last = r.last; optional = r.optional; here = r.here }, in_either flat ls ps arrays h.1)
in_either flat [] [] (a ∷ arrays) h = absurd h
in_either flat [] (p ∷ ps) arrays h = absurd h
in_either flat (l ∷ ls) [] arrays h = absurd h
in_either flat (l ∷ ls) (p ∷ ps) [] h = absurd h

mutual
  pub are_served : (flat : Bool) (a : ArrayTree) (name : List ℕ) (b : Bool) → IsSound a → is_placed flat b (type_of a) ≡ true → AreServedLeaves flat (leaves (node name b (type_of a))) (paths a (node name b (type_of a))) (array_leaves a)
  are_served flat (null_array t n) name b h s =
      let p = leaf_is flat name b t (nulls_leaves (base t) h) s in
      of_leaf flat name b (null_array t n) None n (node name b t) p p.is (λ i. ap (λ (k : Bool). is_optional (node name k t)) (placed_nullable flat b t h s) ∙ nulls_optional name t h)
  are_served flat (leaf_array t vs m) name b h s =
      let p = leaf_is flat name b t (values_leaves (base t) h.1) s in
      of_leaf flat name b (leaf_array t vs m) m (tree_len (leaf_array t vs m)) (node name b t) p p.is (λ i. tt)
  are_served flat (dictionary_array t ks c m) name b h s = absurd (keys_unserved t (type_of c) h.2 (placed_served flat b t s))
  are_served flat (fixed_list_array t w n c m) name b h s = absurd (fixed_unserved t (type_of c) h.3 (placed_served flat b t s))
  are_served flat (list_array t os c m) name b h s =
      let p = list_is name b t (type_of c) h.3 in
      let inner = are_served false c p.item_name p.is_nullable h.2 (p.placed flat s) in
      let item = node p.item_name p.is_nullable (type_of c) in
      let under_both = served_under p.top _ (paths c item) (array_leaves c) (served_under p.middle (leaves item) (paths c item) (array_leaves c) inner) in
      let mine = below_served (part_at (is_optional (node name b t)) (list_array t os c m)) _ (paths c item) (array_leaves c) (λ path. refl) under_both in
      in_either flat _ _ (array_leaves c)
      (subst (λ (ls : List Leaf). AreServedLeaves false ls (below (part_at (is_optional (node name b t)) (list_array t os c m) ∷ []) (given [] (paths c) (item_node (node name b t)))) (array_leaves c)) (sym (ap leaves p.is ∙ over_leaves p.top p.middle item))
      (subst (λ (o : Option Tree). AreServedLeaves false (map (under p.top) (map (under p.middle) (leaves item))) (below (part_at (is_optional (node name b t)) (list_array t os c m) ∷ []) (given [] (paths c) o)) (array_leaves c)) (sym p.item) mine))
  are_served flat (struct_array t cs m) name b h s =
      let fs = part_types (base t) in
      let p = struct_is name b t cs h.3 h.2 in
      let inner = all_leaves_served cs fs (first_len cs) h.0 h.2 (parts_placed flat b t s) in
      let mine = below_served (part_at (is_optional (node name b t)) (struct_array t cs m)) _ (paths_in cs (trees_of fs)) (leaves_in cs) (λ path. refl) (served_under p.top (leaves_of (trees_of fs)) (paths_in cs (trees_of fs)) (leaves_in cs) inner) in
      in_either flat _ _ (leaves_in cs)
      (subst (λ (x : List Leaf). AreServedLeaves false x (below (part_at (is_optional (node name b t)) (struct_array t cs m) ∷ []) (given [] (paths_in cs) (field_nodes (node name b t)))) (leaves_in cs)) (sym (ap leaves p.is))
      (subst (λ (o : Option Trees). AreServedLeaves false (map (under p.top) (leaves_of (trees_of fs))) (below (part_at (is_optional (node name b t)) (struct_array t cs m) ∷ []) (given [] (paths_in cs) o)) (leaves_in cs)) (sym p.nodes) mine))

  all_leaves_served : (cs : ArrayTrees) (fs : FieldTrees) (n : ℕ) → AreSound n cs → AreTyped fs cs → are_placed fs ≡ true → AreServedLeaves false (leaves_of (trees_of fs)) (paths_in cs (trees_of fs)) (leaves_in cs)
  all_leaves_served no_arrays no_fields n h typed s = tt
  all_leaves_served (more_arrays c cs) (more_fields (field name t b m) fs) n h typed s =
      both_served (leaves (node name b t)) (leaves_of (trees_of fs)) (paths c (node name b t)) (paths_in cs (trees_of fs)) (array_leaves c) (leaves_in cs)
      (subst (λ (x : TypeTree). AreServedLeaves false (leaves (node name b x)) (paths c (node name b x)) (array_leaves c)) (sym typed.0) (are_served false c name b h.0 (ap (is_placed false b) (sym typed.0) ∙ placed_first name t b m fs s)))
      (all_leaves_served cs fs n h.2 typed.1 (placed_rest name t b m fs s))
  all_leaves_served no_arrays (more_fields (field x t y z) fs) n h typed s = absurd typed
  all_leaves_served (more_arrays c cs) no_fields n h typed s = absurd typed
