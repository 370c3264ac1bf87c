-- Reading a tree's preorder gives the tree, or tells that it is too deep; and counting tells a preorder.
use Rattle.std.proofs.Common.{◌≡◌, ℕ, zero, suc, ◌+◌, ◌≤◌, ◌<◌, List, [], ◌∷◌, ◌++◌, length, get_or, drop, map, ◌-◌, ◌≢◌, add-one, Bool, true, false, refl, sym, ap, subst, ◌∙◌, inl, inr, arith}
use Rattle.std.specs.Prelude.{◌⊎◌, Option, Some, None, Result, Ok, Err, ◌==◌, if◌then◌else◌}
use Rattle.std.proofs.lemmas.List.{append_assoc, append-nil}
use Rattle.std.proofs.Math.Seq.{drop-cons}
use Rattle.std.proofs.lemmas.Bool.Decides.{eqb_tells}
use Rattle.columns_base.specs.declared.error.Error.{Error}
use Rattle.columns_base.specs.declared.error.Error.TheVariants.{Memory, NotYetImplemented}
use Rattle.columns_base.specs.declared.error.N.TheVariants.{N7}
use Rattle.pq_tree.specs.Forest.{AreTrees, RefusesTrees, max_nesting}
use Rattle.pq_tree.specs.Physical.{Physical}
use Rattle.pq_tree.specs.Reads.{HasNone}
use Rattle.pq_tree.specs.Tree.{Element, Tree, leaf, group, Trees, no_trees, tree, preorder, preorder_of, count_trees, nesting, nesting_of}
use Rattle.pq_tree.specs.declared.types.SchemaElement.{SchemaElement}
use Rattle.pq_tree.specs.TreeReading.{and_then, tree_at, trees_at, trees_with, is_childless, is_childless_of, counted}
use Rattle.pq_tree.specs.Views.{element_view}

-- ---- a tree that is shallow enough is read again

mutual
  unfolding tree_at trees_with

  tree_again : (d : ℕ) (t : Tree) (rest : List Element) → nesting t ≤ d → tree_at d (preorder t ++ rest) ≡ Ok (t, rest)
  tree_again zero (leaf i p) rest h = absurd (omega (arith, h))
  tree_again zero (group i ts) rest h = absurd (omega (arith, h))
  tree_again (suc d) (leaf i p) rest h = refl
  tree_again (suc d) (group i ts) rest h = ap (λ r. and_then r (λ x. Ok (group i x.0, x.1))) (trees_again d ts rest (omega (arith, h)))

  trees_again : (d : ℕ) (ts : Trees) (rest : List Element) → nesting_of ts ≤ d → trees_at d (count_trees ts) (preorder_of ts ++ rest) ≡ Ok (ts, rest)
  trees_again d no_trees rest h = refl
  trees_again d (tree t ts) rest h =
      let first = tree_again d t (preorder_of ts ++ rest) (omega (arith, h)) in
      let others = trees_again d ts rest (omega (arith, h)) in
      rw (append_assoc (preorder t) (preorder_of ts) rest, first, others) refl

-- ---- one that nests deeper is told

deep_or_not : (d n : ℕ) → (d < n) ⊎ (n ≤ d)
deep_or_not zero zero = inr (omega arith)
deep_or_not zero (suc n) = inl (omega arith)
deep_or_not (suc d) zero = inr (omega arith)
deep_or_not (suc d) (suc n) = elim (deep_or_not d n) [ inl h ↦ inl (omega (arith, h)) | inr h ↦ inr (omega (arith, h)) ]

mutual
  unfolding tree_at trees_with

  tree_deep : (d : ℕ) (t : Tree) (rest : List Element) → d < nesting t → tree_at d (preorder t ++ rest) ≡ Err (NotYetImplemented N7)
  tree_deep zero t rest h = refl
  tree_deep (suc d) (leaf i p) rest h = absurd (omega (arith, h))
  tree_deep (suc d) (group i ts) rest h = ap (λ r. and_then r (λ x. Ok (group i x.0, x.1))) (trees_deep d ts rest (omega (arith, h)))

  trees_deep : (d : ℕ) (ts : Trees) (rest : List Element) → d < nesting_of ts → trees_at d (count_trees ts) (preorder_of ts ++ rest) ≡ Err (NotYetImplemented N7)
  trees_deep d no_trees rest h = absurd (omega (arith, h))
  trees_deep d (tree t ts) rest h =
      elim (deep_or_not d (nesting t)) [
        | inl deep ↦ rw (append_assoc (preorder t) (preorder_of ts) rest, tree_deep d t (preorder_of ts ++ rest) deep) refl
        | inr shallow ↦ rw (append_assoc (preorder t) (preorder_of ts) rest, tree_again d t (preorder_of ts ++ rest) shallow, trees_deep d ts rest (omega (arith, h))) refl
      ]

-- ---- counting

both_false : (b c : Bool) → c ≡ false → (if b then c else false) ≡ false
both_false true c h = h
both_false false c h = refl

pub counted_long : (n : ℕ) (es : List Element) → length es < n → counted n es ≡ false
counted_long zero es h = absurd (omega (arith, h))
counted_long (suc n) [] h = refl
counted_long (suc n) (e ∷ es) h = both_false (is_childless e.physical e.children) (counted (n + e.children) es) (counted_long (n + e.children) es (omega (arith, h)))

-- one element on
one_counted : (n : ℕ) (e : Element) (es : List Element) → n ≢ 0 → is_childless e.physical e.children ≡ true → counted n (e ∷ es) ≡ counted (n - 1 + e.children) es
one_counted zero e es some fine = absurd (some refl)
one_counted (suc n) e es some fine =
    let k : suc n - 1 ≡ n = omega arith in
    ap (λ b. if b then counted (n + e.children) es else false) fine ∙ ap (λ j. counted (j + e.children) es) (sym k)

pub counted_step : (es : List SchemaElement) (i : ℕ) (e : SchemaElement) (n : ℕ) → i < length es → e ≡ get_or es i e → n ≢ 0 → is_childless_of (element_view e) ≡ true
    → counted n (map element_view (drop i es)) ≡ counted (n - 1 + e.num_children) (map element_view (drop (i + 1) es))
counted_step es i e n lt is some fine =
    let next : drop i es ≡ e ∷ drop (i + 1) es = rw add-one (drop-cons es i e lt ∙ ap (λ x. x ∷ drop (suc i) es) (sym is)) in
    ap (λ xs. counted n (map element_view xs)) next ∙ one_counted n (element_view e) (map element_view (drop (i + 1) es)) some fine

mutual
  counted_tree : (t : Tree) (n : ℕ) (rest : List Element) → counted (suc n) (preorder t ++ rest) ≡ counted n rest
  counted_tree (leaf i p) n rest = let e : n + 0 ≡ n = omega arith in ap (λ k. counted k rest) e
  counted_tree (group i ts) n rest = let e : n + count_trees ts ≡ count_trees ts + n = omega arith in ap (λ k. counted k (preorder_of ts ++ rest)) e ∙ counted_trees ts n rest

  counted_trees : (ts : Trees) (n : ℕ) (rest : List Element) → counted (count_trees ts + n) (preorder_of ts ++ rest) ≡ counted n rest
  counted_trees no_trees n rest = let e : 0 + n ≡ n = omega arith in ap (λ k. counted k rest) e
  counted_trees (tree t ts) n rest =
      let e : suc (count_trees ts) + n ≡ suc (count_trees ts + n) = omega arith in
      ap (λ k. counted k ((preorder t ++ preorder_of ts) ++ rest)) e
      ∙ ap (counted (suc (count_trees ts + n))) (append_assoc (preorder t) (preorder_of ts) rest)
      ∙ counted_tree t (count_trees ts + n) (preorder_of ts ++ rest)
      ∙ counted_trees ts n rest

pub trees_counted : (es : List Element) (n : ℕ) (ts : Trees) → AreTrees es n ts → counted n es ≡ true
trees_counted es n ts a =
    let k : n ≡ count_trees ts + 0 = omega (arith, a.counts) in
    let none : preorder_of ts ++ [] ≡ preorder_of ts = append-nil (preorder_of ts) in
    ap (λ m. counted m es) k ∙ ap (counted (count_trees ts + 0)) (a.are ∙ sym none) ∙ counted_trees ts 0 []

-- ---- and back: what is counted is the preorder of some trees

not_counted : (n : ℕ) → counted (suc n) [] ≡ true → ⊥
not_counted n h = cc h

not_both : (b : Bool) → b ≡ true → b ≡ false → ⊥
not_both b t f = cc

abbrev Reading : Type 0
Reading = Result (Trees × List Element) Error

ok_of : Trees × List Element → Reading → Trees × List Element
ok_of d (Ok x) = x
ok_of d (Err e) = d

ok_same : (x y : Trees × List Element) → (let r : Reading = Ok x in r) ≡ Ok y → x ≡ y
unfolding ok_of
ok_same x y e = ap (ok_of x) e

err_of : Error → Reading → Error
err_of d (Ok x) = d
err_of d (Err e) = e

err_same : (x y : Error) → (let r : Reading = Err x in r) ≡ Err y → x ≡ y
unfolding err_of
err_same x y e = ap (err_of x) e

ok_not_err : (x : Trees × List Element) (e : Error) → (let r : Reading = Ok x in r) ≡ Err e → ⊥
ok_not_err x e h = cc h

record Front (n m : ℕ) (es : List Element) : Type 0 where
  trees : Trees
  rest : List Element
  counts : count_trees trees ≡ n
  are : es ≡ preorder_of trees ++ rest
  left : counted m rest ≡ true
  shorter : length rest ≤ length es

node_tree : Option Physical → Element → Trees → Tree
node_tree None e us = group e.info us
node_tree (Some p) e us = leaf e.info p

nothing : (us : Trees) → count_trees us ≡ 0 → us ≡ no_trees
nothing no_trees h = refl
nothing (tree t ts) h = absurd (omega (arith, h))

is_zero : (n : ℕ) → (n == 0) ≡ true → n ≡ 0
is_zero n h = elim (eqb_tells n 0) [ inl p ↦ p.1 | inr p ↦ cc ]

node_preorder : (o : Option Physical) (e : Element) (us : Trees) → o ≡ e.physical → count_trees us ≡ e.children → is_childless o e.children ≡ true → preorder (node_tree o e us) ≡ e ∷ preorder_of us
unfolding node_tree
node_preorder None e us typed counts fine = λ i. (record { physical = typed i; children = counts i; info = e.info } ∷ preorder_of us)
node_preorder (Some p) e us typed counts fine =
    let none : e.children ≡ 0 = is_zero e.children fine in
    let empty : preorder_of us ≡ [] = ap preorder_of (nothing us (counts ∙ none)) in
    let same : preorder (leaf e.info p) ≡ e ∷ [] = λ i. (record { physical = typed i; children = sym none i; info = e.info } ∷ []) in
    same ∙ ap (λ (xs : List Element). e ∷ xs) (sym empty)

both_true : (b c : Bool) → (if b then c else false) ≡ true → (b ≡ true) × (c ≡ true)
both_true true c h = (refl, h)
both_true false c h = cc h

front : (k : ℕ) (es : List Element) (n m : ℕ) → length es ≤ k → counted (n + m) es ≡ true → Front n m es
unfolding node_tree
front k es zero m h c = record { trees = no_trees; rest = es; counts = refl; are = refl; left = (let e : m ≡ 0 + m = omega arith in ap (λ j. counted j es) e ∙ c); shorter = omega arith }
front k [] (suc n) m h c = absurd (let e : suc (n + m) ≡ suc n + m = omega arith in not_counted (n + m) (ap (λ j. counted j []) e ∙ c))
front zero (e ∷ es) (suc n) m h c = absurd (omega (arith, h))
front (suc k) (e ∷ es) (suc n) m h c =
    let shift : suc (n + m) ≡ suc n + m = omega arith in
    let both = both_true (is_childless e.physical e.children) (counted (n + m + e.children) es) (ap (λ j. counted j (e ∷ es)) shift ∙ c) in
    let turn : e.children + (n + m) ≡ n + m + e.children = omega arith in
    let first : Front e.children (n + m) es = front k es e.children (n + m) (omega (arith, h)) (ap (λ j. counted j es) turn ∙ both.1) in
    let others : Front n m first.rest = front k first.rest n m (omega (arith, h, first.shorter)) first.left in
    let t = node_tree e.physical e first.trees in
    let node : preorder t ≡ e ∷ preorder_of first.trees = node_preorder e.physical e first.trees refl first.counts both.0 in
    record {
      trees = tree t others.trees;
      rest = others.rest;
      counts = ap suc others.counts;
      are = ap (λ (xs : List Element). e ∷ xs) first.are ∙ ap (λ (xs : List Element). xs ++ first.rest) (sym node) ∙ ap (λ (xs : List Element). preorder t ++ xs) others.are ∙ sym (append_assoc (preorder t) (preorder_of others.trees) others.rest);
      left = others.left;
      shorter = omega (arith, first.shorter, others.shorter);
    }

at_end : (es : List Element) → counted 0 es ≡ true → es ≡ []
at_end [] h = refl
at_end (e ∷ es) h = cc h

trees_exist : (es : List Element) (n : ℕ) → counted n es ≡ true → (ts : Trees) × AreTrees es n ts
trees_exist es n h =
    let e : n + 0 ≡ n = omega arith in
    let f : Front n 0 es = front (length es) es n 0 (omega arith) (ap (λ j. counted j es) e ∙ h) in
    (f.trees, record { counts = f.counts; are = f.are ∙ ap (λ (xs : List Element). preorder_of f.trees ++ xs) (at_end f.rest f.left) ∙ append-nil (preorder_of f.trees) })

-- ---- all the elements

pub no_trees_counted : (es : List Element) (n : ℕ) → counted n es ≡ false → HasNone (AreTrees es n)
no_trees_counted es n h ts a = not_both (counted n es) (trees_counted es n ts a) h

same_at : (es : List Element) (n : ℕ) (ts : Trees) → AreTrees es n ts → trees_at max_nesting n es ≡ trees_at max_nesting (count_trees ts) (preorder_of ts ++ [])
same_at es n ts a = ap (λ k. trees_at max_nesting k es) (sym a.counts) ∙ ap (trees_at max_nesting (count_trees ts)) (a.are ∙ sym (append-nil (preorder_of ts)))

pub trees_refused : (es : List Element) (n : ℕ) (e : Error) → counted n es ≡ true → (e ≡ Memory) ⊎ (trees_at max_nesting n es ≡ Err e) → RefusesTrees es n e
trees_refused es n e h (inl m) = inl m
trees_refused es n e h (inr r) =
    let found = trees_exist es n h in
    elim (deep_or_not max_nesting (nesting_of found.0)) [
      | inl deep ↦ inr (inr (err_same e (NotYetImplemented N7) (sym r ∙ same_at es n found.0 found.1 ∙ trees_deep max_nesting found.0 [] deep), found.0, found.1, deep))
      | inr shallow ↦ absurd (ok_not_err (found.0, []) e (sym (trees_again max_nesting found.0 [] shallow) ∙ sym (same_at es n found.0 found.1) ∙ r))
    ]

pub trees_found : (es : List Element) (n : ℕ) (us : Trees) (rest : List Element) → counted n es ≡ true → trees_at max_nesting n es ≡ Ok (us, rest) → AreTrees es n us × (nesting_of us ≤ max_nesting)
trees_found es n us rest h r =
    let found = trees_exist es n h in
    elim (deep_or_not max_nesting (nesting_of found.0)) [
      | inl deep ↦ absurd (ok_not_err (us, rest) (NotYetImplemented N7) (sym r ∙ same_at es n found.0 found.1 ∙ trees_deep max_nesting found.0 [] deep))
      | inr shallow ↦
          (let same : found.0 ≡ us = ap (λ x. x.0) (ok_same (found.0, []) (us, rest) (sym (trees_again max_nesting found.0 [] shallow) ∙ sym (same_at es n found.0 found.1) ∙ r)) in
          (subst (λ (ts : Trees). AreTrees es n ts) same found.1, subst (λ (ts : Trees). nesting_of ts ≤ max_nesting) same shallow))
    ]
