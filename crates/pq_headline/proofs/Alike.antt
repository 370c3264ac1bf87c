-- Fields that fit go with the leaves of their trees.
use Rattle.std.proofs.Common.{◌≡◌, Bool, true, false, cond, not, nat_eq, Option, Some, None, List, [], ◌∷◌, ◌++◌, length, flat_map, refl, sym, ap, subst, ◌∙◌, true≢false}
use Rattle.std.specs.Prelude.{filter}
use Rattle.std.proofs.Math.Dec.{eqb-suc-zero}
use Rattle.std.proofs.lemmas.Bool.{and_parts}
use Rattle.std.specs.List.{AllZip}
use Rattle.columns_core.specs.Shapes.{base, shape_of, shapes_of}
use Rattle.columns_core.specs.Tree.{TypeTree, t_list, t_large_list, t_map, t_struct, FieldTree, field, FieldTrees, no_fields, more_fields}
use Rattle.pq_tree.specs.Physical.{Physical}
use Rattle.pq_tree.specs.Tree.{Tree, Trees, no_trees, tree, Leaf, leaves, leaves_of}
use Rattle.schema_fit.specs.declared.page_table.Asked.{Asked}
use Rattle.schema_fit.specs.declared.page_table.Asked.TheVariants as A
use Rattle.schema_fit.specs.declared.page_table.Row.{Row}
use Rattle.schema_fit.specs.Fits.{asked_of, fits_to}
use Rattle.schema_fit.specs.PageTable.{row_of, is_allowed, allows, go_by, go_together}
use Rattle.schema_fit.specs.Skeleton.{ArrowLeaf, StoredLeaf, field_bones, tree_bones}
use Rattle.schema_map.specs.Rows.{allows_asked, has_row}
use Rattle.shredding.specs.Shape.{HasNoEmptyStruct, HaveNoEmptyStruct}
use Rattle.pq_headline.specs.Columns.{ArrowColumn, field_columns}
use Rattle.pq_headline.specs.Openings.{IsAlike, AreAlike}
use Rattle.pq_headline.specs.Stages.{AreAllAlike, list_fields, list_trees, trees_with_columns}
use Rattle.pq_headline.proofs.Depths.{Deep, Together, IsTreeLeaf, IsFieldLeaf, in_bones, all_of_same, bones_together, tree_leaves, field_leaves}

-- ---- the row of a leaf that goes together

-- what a field asks
abbrev IsOfField : Asked → Type 0
IsOfField A.Agreement = ⊥
IsOfField A.Nested = Unit {0}
IsOfField A.Flat = Unit {0}

of_field : (t : TypeTree) → IsOfField (asked_of t)
of_field (t_list item) = tt
of_field (t_large_list item) = tt
of_field (t_map entry s) = tt
of_field (t_struct fs) = tt
of_field t = tt

record Rowed (asked : Asked) (o : Option Row) (p : Physical) : Type 0 where
  row : Row
  is : o ≡ Some row
  nests : is_allowed asked row ≡ true
  stored : allows row.stored p ≡ true

by_row : (asked : Asked) (row : Row) (t : TypeTree) (l : StoredLeaf) → go_by asked (Some row) t l ≡ true → Rowed asked (Some row) l.physical
by_row A.Agreement row t l h = let a = and_parts _ _ h in record { row = row; is = refl; nests = a.0; stored = (and_parts _ _ a.1).0 }
by_row A.Nested row t l h = let a = and_parts _ _ h in record { row = row; is = refl; nests = a.0; stored = (and_parts _ _ a.1).0 }
by_row A.Flat row t l h = let a = and_parts _ _ h in record { row = row; is = refl; nests = a.0; stored = (and_parts _ _ a.1).0 }

rowed : (asked : Asked) (o : Option Row) (t : TypeTree) (l : StoredLeaf) → IsOfField asked → go_by asked o t l ≡ true → Rowed asked o l.physical
rowed asked (Some row) t l f h = by_row asked row t l h
rowed A.Agreement None t l f h = absurd f
rowed A.Nested None t l f h = absurd (true≢false (sym h))
rowed A.Flat None t l f h = absurd (true≢false (sym h))

has_one : (asked : Asked) → IsOfField asked → (a : ArrowLeaf) (l : StoredLeaf) → go_together asked a l ≡ true → has_row asked a ≡ true
has_one asked f a l h = let r = rowed asked (row_of a) a.data_type l f h in ap (allows_asked asked) r.is ∙ r.nests

-- ---- leaf by leaf

alike_leaf : (asked : Asked) (x : Deep ArrowLeaf) (y : Deep StoredLeaf) (c : ArrowColumn) (l : Leaf) → IsOfField asked → IsFieldLeaf x c → Together (go_together asked) x y → IsTreeLeaf y l → IsAlike asked c l
alike_leaf asked x y c l f fl t tl =
    let r = rowed asked (row_of x.item) x.item.data_type y.item f t.go in
    record {
      repetition = tl.repetition ∙ sym t.repetition ∙ sym fl.repetition;
      definition = tl.definition ∙ sym t.definition ∙ sym fl.definition;
      row = r.row;
      has_row = ap row_of fl.item ∙ r.is;
      nests = r.nests;
      stored = ap (allows r.row.stored) tl.physical ∙ r.stored;
    }

alike_leaves : (asked : Asked) (xs : List (Deep ArrowLeaf)) (ys : List (Deep StoredLeaf)) (cs : List ArrowColumn) (ls : List Leaf) → IsOfField asked → AllZip IsFieldLeaf xs cs → AllZip (Together (go_together asked)) xs ys → AllZip IsTreeLeaf ys ls → AllZip (IsAlike asked) cs ls
alike_leaves asked [] [] [] [] f a b c = tt
alike_leaves asked [] [] [] (l ∷ ls) f a b c = absurd c
alike_leaves asked [] [] (k ∷ cs) ls f a b c = absurd a
alike_leaves asked [] (y ∷ ys) cs ls f a b c = absurd b
alike_leaves asked (x ∷ xs) [] cs ls f a b c = absurd b
alike_leaves asked (x ∷ xs) (y ∷ ys) [] ls f a b c = absurd a
alike_leaves asked (x ∷ xs) (y ∷ ys) (k ∷ cs) [] f a b c = absurd c
alike_leaves asked (x ∷ xs) (y ∷ ys) (k ∷ cs) (l ∷ ls) f a b c = (alike_leaf asked x y k l f a.0 b.0 c.0, alike_leaves asked xs ys cs ls f a.1 b.1 c.1)

pub fitting_alike : (f : FieldTree) (t : Tree) → HasNoEmptyStruct (shape_of f) → fits_to f t ≡ true → AreAlike f (leaves t)
fitting_alike (field name ty n m) t structs h =
    let asked : Asked = asked_of (base ty) in
    let f : FieldTree = field name ty n m in
    let own = of_field (base ty) in
    let rows = all_of_same (go_together asked) (has_row asked) (has_one asked own) (field_bones f) (tree_bones t) h in
    record {
      are = alike_leaves asked (in_bones (field_bones f)) (in_bones (tree_bones t)) (field_columns f) (leaves t) own (field_leaves asked f rows) (bones_together (go_together asked) (field_bones f) (tree_bones t) h) (tree_leaves t);
      structs = structs;
    }

-- ---- field by field

abbrev Fit : FieldTree → Tree → Type 0
Fit f t = fits_to f t ≡ true

fields_alike : (fs : FieldTrees) (us : List Tree) → HaveNoEmptyStruct (shapes_of fs) → AllZip Fit (list_fields fs) us → AreAllAlike fs (flat_map leaves us)
fields_alike no_fields [] structs h = refl
fields_alike no_fields (u ∷ us) structs h = absurd h
fields_alike (more_fields f fs) [] structs h = absurd h
fields_alike (more_fields f fs) (u ∷ us) structs h = (leaves u, flat_map leaves us, refl, fitting_alike f u structs.0 h.0, fields_alike fs us structs.1 h.1)

abbrev has_column : Tree → Bool
has_column t = not (nat_eq (length (leaves t)) 0)

no_leaves : (ls : List Leaf) → not (nat_eq (length ls) 0) ≡ false → ls ≡ []
no_leaves [] h = refl
no_leaves (l ∷ ls) h = absurd (true≢false (sym (ap not (eqb-suc-zero (length ls))) ∙ h))

kept : (t : Tree) (us : List Tree) (b : Bool) → has_column t ≡ b → flat_map leaves (cond b (t ∷ us) us) ≡ leaves t ++ flat_map leaves us
kept t us true h = refl
kept t us false h = ap (λ ls. ls ++ flat_map leaves us) (sym (no_leaves (leaves t) h))

leaves_kept : (ts : Trees) → flat_map leaves (trees_with_columns ts) ≡ leaves_of ts
leaves_kept no_trees = refl
leaves_kept (tree t ts) = ap (flat_map leaves) (filter_one t (list_trees ts)) ∙ kept t (trees_with_columns ts) (has_column t) refl ∙ ap (λ ls. leaves t ++ ls) (leaves_kept ts)
  where
    filter_one : (t : Tree) (us : List Tree) → filter has_column (t ∷ us) ≡ cond (has_column t) (t ∷ filter has_column us) (filter has_column us)
    filter_one t us = refl

pub fitting_all_alike : (fs : FieldTrees) (ts : Trees) → HaveNoEmptyStruct (shapes_of fs) → AllZip Fit (list_fields fs) (trees_with_columns ts) → AreAllAlike fs (leaves_of ts)
fitting_all_alike fs ts structs h = subst (AreAllAlike fs) (leaves_kept ts) (fields_alike fs (trees_with_columns ts) structs h)
