-- Trees and types one by one.
use Rattle.std.proofs.Common.{◌≡◌, ℕ, suc, ◌+◌, ◌≤◌, List, [], ◌∷◌, length, drop, refl, sym, ap, subst, ◌∙◌}
use Rattle.std.proofs.lemmas.List.{drop_all}
use Rattle.columns_array.specs.Boxed.{all_boxed, boxed}
use Rattle.columns_array.specs.declared.arrays.ArrayBox.{ArrayBox}
use Rattle.std.specs.Prelude.{string_bytes}
use Rattle.columns_core.specs.Tree.{TypeTree, FieldTree, field, FieldTrees, more_fields}
use Rattle.columns_core.specs.View.{field_step, field_view, fields_view, type_step, type_view}
use Rattle.columns_core.specs.declared.types.Field.{Field, fold_out-Field}
use Rattle.columns_slots.specs.Slots.{AreTyped, type_of}
use Rattle.columns_slots.specs.Tree.{no_arrays}
use Rattle.pq_tree.specs.Tree.{Tree, Trees, no_trees, tree, count_trees}
use Rattle.pq_tree.specs.TreeViews.{tree_view, trees_view}
use Rattle.pq_tree.specs.declared.types.ParquetType.{ParquetType}

first_tree : Trees → Tree → Tree
first_tree no_trees d = d
first_tree (tree t ts) d = t

rest_trees : Trees → Trees
rest_trees no_trees = no_trees
rest_trees (tree t ts) = ts

heads : (t u : Tree) (ts us : Trees) → tree t ts ≡ tree u us → t ≡ u
unfolding first_tree
heads t u ts us e = ap (λ (x : Trees). first_tree x t) e

tails : (t u : Tree) (ts us : Trees) → tree t ts ≡ tree u us → ts ≡ us
unfolding rest_trees
tails t u ts us e = ap rest_trees e

counted : (xs : List ParquetType) → count_trees (trees_view xs) ≡ length xs
counted [] = refl
counted (x ∷ xs) = ap suc (counted xs)

pub same_count : (a b : List ParquetType) → trees_view a ≡ trees_view b → length a ≡ length b
same_count a b e = sym (counted a) ∙ (ap count_trees e ∙ counted b)

module _ (a b : List ParquetType) (i : ℕ) (x y : ParquetType) (la : drop i a ≡ x ∷ drop (i + 1) a) (lb : drop i b ≡ y ∷ drop (i + 1) b) where
  pub more_same : tree_view x ≡ tree_view y → trees_view (drop (i + 1) a) ≡ trees_view (drop (i + 1) b) → trees_view (drop i a) ≡ trees_view (drop i b)
  more_same e r = ap trees_view la ∙ ((λ k. tree (e k) (r k)) ∙ sym (ap trees_view lb))

  pub first_same : trees_view (drop i a) ≡ trees_view (drop i b) → tree_view x ≡ tree_view y
  first_same h = heads (tree_view x) (tree_view y) (trees_view (drop (i + 1) a)) (trees_view (drop (i + 1) b)) (sym (ap trees_view la) ∙ (h ∙ ap trees_view lb))

  pub rest_same : trees_view (drop i a) ≡ trees_view (drop i b) → trees_view (drop (i + 1) a) ≡ trees_view (drop (i + 1) b)
  rest_same h = tails (tree_view x) (tree_view y) (trees_view (drop (i + 1) a)) (trees_view (drop (i + 1) b)) (sym (ap trees_view la) ∙ (h ∙ ap trees_view lb))

pub none_same : (a b : List ParquetType) (i : ℕ) → length a ≤ i → length b ≤ i → trees_view (drop i a) ≡ trees_view (drop i b)
none_same a b i h g = ap trees_view (drop_all i a h) ∙ sym (ap trees_view (drop_all i b g))

-- ---- the types of fields and arrays

seen : (f : Field) → field_view f ≡ field (string_bytes f.name) (type_view f.data_type) f.is_nullable f.metadata
seen f = fold_out-Field TypeTree FieldTree type_step field_step f

opened : (f : Field) (fs : List Field) → fields_view (f ∷ fs) ≡ more_fields (field (string_bytes f.name) (type_view f.data_type) f.is_nullable f.metadata) (fields_view fs)
opened f fs = ap (λ (t : FieldTree). more_fields t (fields_view fs)) (seen f)

typed_count : (fs : List Field) (xs : List ArrayBox) → AreTyped (fields_view fs) (all_boxed xs) → length fs ≡ length xs
typed_count [] [] h = refl
typed_count [] (x ∷ xs) h = absurd h
typed_count (f ∷ fs) [] h = let g = subst (λ (t : FieldTrees). AreTyped t no_arrays) (opened f fs) h in absurd g
typed_count (f ∷ fs) (x ∷ xs) h = let g = subst (λ (t : FieldTrees). AreTyped t (all_boxed (x ∷ xs))) (opened f fs) h in ap suc (typed_count fs xs g.1)

pub same_number : (fs : List Field) (xs : List ArrayBox) → AreTyped (fields_view fs) (all_boxed xs) → length fs ≡ length xs
same_number fs xs h = typed_count fs xs h

module _ (fs : List Field) (xs : List ArrayBox) (i : ℕ) (f : Field) (x : ArrayBox) (lf : drop i fs ≡ f ∷ drop (i + 1) fs) (lx : drop i xs ≡ x ∷ drop (i + 1) xs) where
  typed_back : (type_view f.data_type ≡ type_of (boxed x)) × AreTyped (fields_view (drop (i + 1) fs)) (all_boxed (drop (i + 1) xs)) → AreTyped (fields_view (drop i fs)) (all_boxed (drop i xs))
  typed_back h =
      subst (λ (ys : List Field). AreTyped (fields_view ys) (all_boxed (drop i xs))) (sym lf)
      (subst (λ (ys : List ArrayBox). AreTyped (fields_view (f ∷ drop (i + 1) fs)) (all_boxed ys)) (sym lx)
      (subst (λ (t : FieldTrees). AreTyped t (all_boxed (x ∷ drop (i + 1) xs))) (sym (opened f (drop (i + 1) fs))) h))

  typed_there : AreTyped (fields_view (drop i fs)) (all_boxed (drop i xs)) → (type_view f.data_type ≡ type_of (boxed x)) × AreTyped (fields_view (drop (i + 1) fs)) (all_boxed (drop (i + 1) xs))
  typed_there h =
      subst (λ (t : FieldTrees). AreTyped t (all_boxed (x ∷ drop (i + 1) xs))) (opened f (drop (i + 1) fs))
      (subst (λ (ys : List ArrayBox). AreTyped (fields_view (f ∷ drop (i + 1) fs)) (all_boxed ys)) lx
      (subst (λ (ys : List Field). AreTyped (fields_view ys) (all_boxed (drop i xs))) lf h))

  pub more_typed : type_view f.data_type ≡ type_of (boxed x) → AreTyped (fields_view (drop (i + 1) fs)) (all_boxed (drop (i + 1) xs)) → AreTyped (fields_view (drop i fs)) (all_boxed (drop i xs))
  more_typed e h = typed_back (e, h)

  pub first_typed : AreTyped (fields_view (drop i fs)) (all_boxed (drop i xs)) → type_view f.data_type ≡ type_of (boxed x)
  first_typed h = (typed_there h).0

  pub rest_typed : AreTyped (fields_view (drop i fs)) (all_boxed (drop i xs)) → AreTyped (fields_view (drop (i + 1) fs)) (all_boxed (drop (i + 1) xs))
  rest_typed h = (typed_there h).1
