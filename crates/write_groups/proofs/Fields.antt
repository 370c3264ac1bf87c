-- The columns of one field after another.
use Rattle.std.proofs.Common.{◌≡◌, inl, inr, ℕ, ◌+◌, ◌<◌, ◌≤◌, arith, List, [], ◌∷◌, ◌++◌, length, map, drop, get_or, refl, sym, subst, add-one, drop-cons, Vec}
use Rattle.std.specs.Global.{Global}
use Rattle.std.proofs.lemmas.List.{drop_all}
use Rattle.columns_array.specs.Boxed.{all_boxed, boxed}
use Rattle.columns_array.specs.declared.arrays.ArrayBox.{ArrayBox}
use Rattle.columns_slots.specs.Slots.{count_arrays}
use Rattle.columns_base.specs.declared.error.Error.{Error}
use Rattle.pq_tree.specs.TreeViews.{tree_view, trees_view}
use Rattle.pq_tree.specs.declared.types.Encoding.{Encoding}
use Rattle.pq_tree.specs.declared.types.ParquetType.{ParquetType}
use Rattle.write_pages.specs.declared.options.WriteOptions.{WriteOptions}
use Rattle.write_groups.specs.Columns.{AreFieldColumns, AreGroupColumns, RefusesField, RefusesFields}
use Rattle.write_groups.specs.declared.column.ChunkColumn.{ChunkColumn}

abbrev pub lists_of : List (Vec Encoding Global) → List (List Encoding)
lists_of ess = map (λ es. es.items) ess

pub boxed_count : (xs : List ArrayBox) → count_arrays (all_boxed xs) ≡ length xs
boxed_count [] = refl
boxed_count (x ∷ xs) = omega (arith, boxed_count xs)

pub none_more : (o : WriteOptions) (arrays : List ArrayBox) (trees : List ParquetType) (ess : List (Vec Encoding Global)) (i : ℕ) → length arrays ≤ i → length trees ≡ length arrays → length ess ≡ length arrays → AreGroupColumns o (all_boxed (drop i arrays)) (trees_view (drop i trees)) (lists_of (drop i ess)) []
none_more o arrays trees ess i h a b = rw (drop_all i arrays h, drop_all i trees (rw a h), drop_all i ess (rw b h)) refl

pub front : {A : Type 0} (xs : List A) (i : ℕ) (x : A) → i < length xs → x ≡ get_or xs i x → drop i xs ≡ x ∷ drop (i + 1) xs
front xs i x h e = rw (add-one, drop-cons xs i x h, ← e) refl

module _ (o : WriteOptions) (arrays : List ArrayBox) (trees : List ParquetType) (ess : List (Vec Encoding Global)) (i : ℕ) (a : ArrayBox) (t : ParquetType) (es : Vec Encoding Global)
    (la : drop i arrays ≡ a ∷ drop (i + 1) arrays) (lt : drop i trees ≡ t ∷ drop (i + 1) trees) (le : drop i ess ≡ es ∷ drop (i + 1) ess) where
  pub one_more : (mine others : List ChunkColumn) → AreFieldColumns o (boxed a) (tree_view t) es.items mine → AreGroupColumns o (all_boxed (drop (i + 1) arrays)) (trees_view (drop (i + 1) trees)) (lists_of (drop (i + 1) ess)) others → AreGroupColumns o (all_boxed (drop i arrays)) (trees_view (drop i trees)) (lists_of (drop i ess)) (mine ++ others)
  one_more mine others h g =
      subst (λ (xs : List ArrayBox). AreGroupColumns o (all_boxed xs) (trees_view (drop i trees)) (lists_of (drop i ess)) (mine ++ others)) (sym la)
      (subst (λ (xs : List ParquetType). AreGroupColumns o (all_boxed (a ∷ drop (i + 1) arrays)) (trees_view xs) (lists_of (drop i ess)) (mine ++ others)) (sym lt)
      (subst (λ (xs : List (Vec Encoding Global)). AreGroupColumns o (all_boxed (a ∷ drop (i + 1) arrays)) (trees_view (t ∷ drop (i + 1) trees)) (lists_of xs) (mine ++ others)) (sym le)
      (mine, others, refl, h, g)))

  back : (e : Error) → RefusesFields o (all_boxed (a ∷ drop (i + 1) arrays)) (trees_view (t ∷ drop (i + 1) trees)) (lists_of (es ∷ drop (i + 1) ess)) e → RefusesFields o (all_boxed (drop i arrays)) (trees_view (drop i trees)) (lists_of (drop i ess)) e
  back e h =
      subst (λ (xs : List ArrayBox). RefusesFields o (all_boxed xs) (trees_view (drop i trees)) (lists_of (drop i ess)) e) (sym la)
      (subst (λ (xs : List ParquetType). RefusesFields o (all_boxed (a ∷ drop (i + 1) arrays)) (trees_view xs) (lists_of (drop i ess)) e) (sym lt)
      (subst (λ (xs : List (Vec Encoding Global)). RefusesFields o (all_boxed (a ∷ drop (i + 1) arrays)) (trees_view (t ∷ drop (i + 1) trees)) (lists_of xs) e) (sym le) h))

  pub refused_here : (e : Error) → RefusesField o (boxed a) (tree_view t) es.items e → RefusesFields o (all_boxed (drop i arrays)) (trees_view (drop i trees)) (lists_of (drop i ess)) e
  refused_here e h = back e (inl h)

  pub refused_later : (e : Error) → RefusesFields o (all_boxed (drop (i + 1) arrays)) (trees_view (drop (i + 1) trees)) (lists_of (drop (i + 1) ess)) e → RefusesFields o (all_boxed (drop i arrays)) (trees_view (drop i trees)) (lists_of (drop i ess)) e
  refused_later e h = back e (inr h)
