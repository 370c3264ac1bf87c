-- The leaf types, the leaves of the tree and the columns of a type are as many.
use Rattle.std.proofs.Common.{◌≡◌, Bool, true, false, ◌||◌, is_some, None, List, [], ◌∷◌, ◌++◌, length, length-append, refl, sym, ap, ◌∙◌, true≢false, arith}
use Rattle.std.specs.List.{AllByRecursion as Each}
use Rattle.std.proofs.lemmas.List.{length-map}
use Rattle.std.proofs.lemmas.List.Elements.{recursion_from_All}
use Rattle.std.proofs.lemmas.Bool.{or_from}
use Rattle.columns_core.specs.Measures as M
use Rattle.columns_core.specs.Shapes.{base}
use Rattle.columns_core.specs.Tree.{TypeTree, t_list, t_fixed_size_list, t_large_list, t_struct, t_union, t_map, t_dictionary, t_extension, FieldTree, field, FieldTrees, no_fields, more_fields}
use Rattle.pq_tree.specs.Tree as T
use Rattle.pq_tree.specs.Types.{Info}
use Rattle.schema_fit.specs.PageTable.{entry_row}
use Rattle.schema_map.specs.Counts.{IsInTable, LeavesAreCounted}
use Rattle.schema_to_tree.specs.Conditions.{some_type, some_field, some_fields, is_unwritten}
use Rattle.schema_to_tree.specs.Leaves.{leaves_as, field_leaf_types, fields_leaf_types, meets, field_meets, fields_meet, is_union}
use Rattle.schema_to_tree.specs.Table.{named, repetition_of, marked, type_tree, tree_of, trees_of, one}

front : {A : Type 0} (P : A → Type 0) (xs ys : List A) → Each P (xs ++ ys) → Each P xs
front P [] ys h = tt
front P (x ∷ xs) ys h = (h.0, front P xs ys h.1)

back : {A : Type 0} (P : A → Type 0) (xs ys : List A) → Each P (xs ++ ys) → Each P ys
back P [] ys h = h
back P (x ∷ xs) ys h = back P xs ys h.1

-- a list or a map has the leaves of its part
over_leaves : (i middle : Info) (part : T.Tree) → length (T.leaves (T.group i (one (T.group middle (one part))))) ≡ length (T.leaves part)
over_leaves i middle part =
    let inner : length (T.leaves_of (one part)) ≡ length (T.leaves part) = omega (arith, length-append (T.leaves part) []) in
    let group : length (T.leaves (T.group middle (one part))) ≡ length (T.leaves part) = length-map (T.leaves_of (one part)) (T.under middle) ∙ inner in
    length-map (T.leaves_of (one (T.group middle (one part)))) (T.under i) ∙ omega (arith, length-append (T.leaves (T.group middle (one part))) [], group)

-- the entries of a dictionary are stored as one leaf
entry_leaf : (t : TypeTree) (i : Info) → is_some (entry_row (base t)) ≡ true → length (T.leaves (type_tree i t)) ≡ 1
entry_leaf (t_list f) i h = absurd (true≢false (sym h))
entry_leaf (t_large_list f) i h = absurd (true≢false (sym h))
entry_leaf (t_fixed_size_list f n) i h = absurd (true≢false (sym h))
entry_leaf (t_map f sorted) i h = absurd (true≢false (sym h))
entry_leaf (t_struct fs) i h = absurd (true≢false (sym h))
entry_leaf (t_dictionary key t sorted) i h = absurd (true≢false (sym h))
entry_leaf (t_extension name t m) i h = entry_leaf t i h
entry_leaf t i h = refl

no_union : (w : TypeTree) (fs : FieldTrees) (ids : _) (sparse : _) → base w ≡ t_union fs ids sparse → IsInTable w → ⊥
no_union w fs ids sparse e h = true≢false (sym (rw e at h))

keyed : (w : TypeTree) (key : _) (t : TypeTree) (sorted : _) → base w ≡ t_dictionary key t sorted → IsInTable w → is_some (entry_row (base t)) ≡ true
keyed w key t sorted e h = rw e at h

mutual
  nodes : (w t : TypeTree) (i : Info) → base w ≡ base t → Each IsInTable (leaves_as w t) → (length (leaves_as w t) ≡ M.leaves t) × (length (T.leaves (type_tree i t)) ≡ M.leaves t)
  nodes w (t_list f) i e h = let n = field_nodes f h in (n.0, over_leaves _ _ (tree_of f) ∙ n.1)
  nodes w (t_large_list f) i e h = let n = field_nodes f h in (n.0, over_leaves _ _ (tree_of f) ∙ n.1)
  nodes w (t_fixed_size_list f k) i e h = let n = field_nodes f h in (n.0, over_leaves _ _ (tree_of f) ∙ n.1)
  nodes w (t_map f sorted) i e h = let n = field_nodes f h in (n.0, over_leaves _ _ (tree_of f) ∙ n.1)
  nodes w (t_struct fs) i e h = let n = fields_nodes fs h in (n.0, length-map (T.leaves_of (trees_of fs)) (T.under (marked i None None)) ∙ n.1)
  nodes w (t_union fs ids sparse) i e h = absurd (no_union w fs ids sparse e h.0)
  nodes w (t_dictionary key t sorted) i e h = (refl, entry_leaf t i (keyed w key t sorted e h.0))
  nodes w (t_extension name t m) i e h = nodes w t i e h
  nodes w t i e h = (refl, refl)

  field_nodes : (f : FieldTree) → Each IsInTable (field_leaf_types f) → (length (field_leaf_types f) ≡ M.field_leaves f) × (length (T.leaves (tree_of f)) ≡ M.field_leaves f)
  field_nodes (field name t nullable m) h = nodes t t (named name (repetition_of nullable)) refl h

  fields_nodes : (fs : FieldTrees) → Each IsInTable (fields_leaf_types fs) → (length (fields_leaf_types fs) ≡ M.fields_leaves fs) × (length (T.leaves_of (trees_of fs)) ≡ M.fields_leaves fs)
  fields_nodes no_fields h = (refl, refl)
  fields_nodes (more_fields f fs) h =
      let first = field_nodes f (front IsInTable (field_leaf_types f) (fields_leaf_types fs) h) in
      let others = fields_nodes fs (back IsInTable (field_leaf_types f) (fields_leaf_types fs) h) in
      (omega (arith, length-append (field_leaf_types f) (fields_leaf_types fs), first.0, others.0), omega (arith, length-append (T.leaves (tree_of f)) (T.leaves_of (trees_of fs)), first.1, others.1))

-- ---- a type that is written has no unions

left_false : (a b : Bool) → (a || b) ≡ false → a ≡ false
left_false true b h = absurd (true≢false h)
left_false false b h = refl

right_false : (a b : Bool) → (a || b) ≡ false → b ≡ false
right_false true b h = absurd (true≢false h)
right_false false b h = h

mutual
  unions : (t : TypeTree) → some_type is_unwritten t ≡ false → meets is_union t ≡ false
  unions (t_list f) h = field_unions f h
  unions (t_large_list f) h = field_unions f h
  unions (t_fixed_size_list f n) h = field_unions f h
  unions (t_map f sorted) h = field_unions f h
  unions (t_struct fs) h = fields_unions fs h
  unions (t_union fs ids sparse) h = absurd (true≢false h)
  unions (t_extension name t m) h = unions t h
  unions t h = refl

  field_unions : (f : FieldTree) → some_field is_unwritten f ≡ false → field_meets is_union f ≡ false
  field_unions (field name t nullable m) h = unions t h

  fields_unions : (fs : FieldTrees) → some_fields is_unwritten fs ≡ false → fields_meet is_union fs ≡ false
  fields_unions no_fields h = refl
  fields_unions (more_fields f fs) h = or_from _ _ (field_unions f (left_false _ _ h)) (fields_unions fs (right_false _ _ h))

pub leaves_are_counted : LeavesAreCounted
leaves_are_counted f t written rows few =
    let n = field_nodes f (recursion_from_All IsInTable (field_leaf_types f) rows) in
    record {
      types = n.0;
      nodes = ap (λ u. length (T.leaves u)) written.0 ∙ n.1;
      columns = omega (arith, few);
      unions = field_unions f written.1.types;
    }
