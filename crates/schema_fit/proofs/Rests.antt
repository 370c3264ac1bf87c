-- What is left behind a place.
use Rattle.std.proofs.Common.{◌≡◌, ℕ, zero, suc, ◌≤◌, ◌<◌, ◌+◌, List, [], ◌∷◌, length, get_or, drop, replicate, refl, sym, ap, ◌∙◌, arith}
use Rattle.pq_tree.specs.declared.types.ParquetType.{ParquetType}
use Rattle.pq_tree.specs.Tree.{Tree, leaf, group, Trees, no_trees, tree, nesting, nesting_of}
use Rattle.pq_tree.specs.TreeViews.{tree_view, trees_view}
use Rattle.pq_tree.specs.Types.{Repetition, required, optional, repeated}
use Rattle.schema_fit.specs.Skeleton.{Bone, Bones, no_bones, bone, and_then, under, StoredLeaf, tree_bones, trees_bones}
use Rattle.schema_fit.specs.Walk.{inner_bones, leaf_bones, next_at, beneath, once, rest_under, rest_of, rest_in, rest_inside}

-- ---- a walk that has not begun

zero_at : (n : ℕ) → next_at (replicate n 0) ≡ 0
zero_at zero = refl
zero_at (suc n) = refl

beneath_zeros : (n : ℕ) → (k : ℕ) × (beneath (replicate n 0) ≡ replicate k 0)
beneath_zeros zero = (0, refl)
beneath_zeros (suc n) = (n, refl)

fresh_under : (r : Repetition) (all rest : Bones StoredLeaf) → rest ≡ all → rest_under r 0 all rest ≡ under r all
fresh_under required no_bones rest e = e
fresh_under required (bone x xs) rest e = e
fresh_under optional all rest e = refl
fresh_under repeated all rest e = refl

mutual
  pub fresh_of : (t : Tree) (n : ℕ) → rest_of t (replicate n 0) ≡ tree_bones t
  fresh_of (leaf i p) n =
      ap (λ k. rest_under i.repetition k (leaf_bones (leaf i p)) (once k (leaf_bones (leaf i p)))) (zero_at n) ∙ fresh_under i.repetition (leaf_bones (leaf i p)) (leaf_bones (leaf i p)) refl
  fresh_of (group i ts) n =
      let z = beneath_zeros n in
      ap (λ k. rest_under i.repetition k (trees_bones ts) (rest_in ts k (beneath (replicate n 0)))) (zero_at n)
      ∙ ap (λ path. rest_under i.repetition 0 (trees_bones ts) (rest_in ts 0 path)) z.1
      ∙ fresh_under i.repetition (trees_bones ts) (rest_in ts 0 (replicate z.0 0)) (fresh_in ts z.0)

  pub fresh_in : (ts : Trees) (n : ℕ) → rest_in ts 0 (replicate n 0) ≡ trees_bones ts
  fresh_in no_trees n = refl
  fresh_in (tree t ts) n = ap (λ x. and_then x (trees_bones ts)) (fresh_of t n)

pub fresh_inside : (t : Tree) (n : ℕ) → rest_inside t (replicate n 0) ≡ inner_bones t
fresh_inside (leaf i p) n = ap (λ k. once k (leaf_bones (leaf i p))) (zero_at n)
fresh_inside (group i ts) n =
    let z = beneath_zeros n in
    ap (λ k. rest_in ts k (beneath (replicate n 0))) (zero_at n) ∙ ap (λ path. rest_in ts 0 path) z.1 ∙ fresh_in ts z.0

-- ---- a place among nodes

pub rest_at : (xs : List ParquetType) (at : ℕ) (below : List ℕ) (x : ParquetType) → at < length xs → x ≡ get_or xs at x
    → rest_in (trees_view xs) at below ≡ and_then (rest_of (tree_view x) below) (trees_bones (trees_view (drop (suc at) xs)))
rest_at [] at below x h e = absurd (omega arith)
rest_at (y ∷ ys) zero below x h e = ap (λ z. and_then (rest_of (tree_view z) below) (trees_bones (trees_view ys))) (sym e)
rest_at (y ∷ ys) (suc at) below x h e = rest_at ys at below x (omega arith) e

pub rest_past : (xs : List ParquetType) (at n : ℕ) → rest_in (trees_view xs) at (replicate n 0) ≡ trees_bones (trees_view (drop at xs))
rest_past [] zero n = refl
rest_past [] (suc at) n = refl
rest_past (y ∷ ys) zero n = fresh_in (trees_view (y ∷ ys)) n
rest_past (y ∷ ys) (suc at) n = rest_past ys at n

pub rest_end : (xs : List ParquetType) (at : ℕ) (below : List ℕ) → length xs ≤ at → rest_in (trees_view xs) at below ≡ no_bones
rest_end [] at below h = refl
rest_end (y ∷ ys) zero below h = absurd (omega arith)
rest_end (y ∷ ys) (suc at) below h = rest_end ys at below (omega arith)

pub nests_at : (xs : List ParquetType) (at : ℕ) (x : ParquetType) → at < length xs → x ≡ get_or xs at x → nesting (tree_view x) ≤ nesting_of (trees_view xs)
nests_at [] at x h e = absurd (omega arith)
nests_at (y ∷ ys) zero x h e =
    let same = ap (λ z. nesting (tree_view z)) e in
    omega (arith, same)
nests_at (y ∷ ys) (suc at) x h e =
    let below = nests_at ys at x (omega arith) e in
    omega (arith, below)

-- ---- steps

pub step_found : (xs : List ParquetType) (at : ℕ) (below after : List ℕ) (x : ParquetType) (b : Bone StoredLeaf) → at < length xs → x ≡ get_or xs at x
    → rest_of (tree_view x) below ≡ bone b (rest_of (tree_view x) after) → rest_in (trees_view xs) at below ≡ bone b (rest_in (trees_view xs) at after)
step_found xs at below after x b h e found =
    rest_at xs at below x h e ∙ ap (λ r. and_then r (trees_bones (trees_view (drop (suc at) xs)))) found ∙ ap (bone b) (sym (rest_at xs at after x h e))

pub step_past : (xs : List ParquetType) (at n : ℕ) (below : List ℕ) (x : ParquetType) → at < length xs → x ≡ get_or xs at x → rest_of (tree_view x) below ≡ no_bones
    → rest_in (trees_view xs) at below ≡ rest_in (trees_view xs) (suc at) (replicate n 0)
step_past xs at n below x h e none =
    rest_at xs at below x h e ∙ ap (λ r. and_then r (trees_bones (trees_view (drop (suc at) xs)))) none ∙ sym (rest_past xs (suc at) n)

pub place_found : (xs : List ParquetType) (path after : List ℕ) (begin : Bones StoredLeaf) (i j : ℕ) (x : ParquetType) (b : Bone StoredLeaf)
    → i ≡ next_at path → i < length xs → j ≡ next_at path → x ≡ get_or xs j x → rest_in (trees_view xs) (next_at path) (beneath path) ≡ begin → next_at after ≡ next_at path
    → rest_of (tree_view x) (beneath path) ≡ bone b (rest_of (tree_view x) (beneath after)) → begin ≡ bone b (rest_in (trees_view xs) (next_at after) (beneath after))
place_found xs path after begin i j x b ei lt ej is inv same found =
    let lt' : next_at path < length xs = omega (arith, ei, lt) in
    sym inv ∙ step_found xs (next_at path) (beneath path) (beneath after) x b lt' (is ∙ ap (λ k. get_or xs k x) ej) found ∙ ap (λ k. bone b (rest_in (trees_view xs) k (beneath after))) (sym same)

pub place_past : (xs : List ParquetType) (path between after : List ℕ) (begin : Bones StoredLeaf) (i j n : ℕ) (x : ParquetType)
    → i ≡ next_at path → i < length xs → j ≡ next_at path → x ≡ get_or xs j x → rest_in (trees_view xs) (next_at path) (beneath path) ≡ begin → next_at between ≡ next_at path
    → next_at after ≡ next_at between + 1 → beneath after ≡ replicate n 0 → rest_of (tree_view x) (beneath path) ≡ no_bones → rest_in (trees_view xs) (next_at after) (beneath after) ≡ begin
place_past xs path between after begin i j n x ei lt ej is inv same more zeros none =
    let lt' : next_at path < length xs = omega (arith, ei, lt) in
    let at : next_at after ≡ suc (next_at path) = omega (arith, more, same) in
    ap (λ k. rest_in (trees_view xs) k (beneath after)) at ∙ ap (λ below. rest_in (trees_view xs) (suc (next_at path)) below) zeros
    ∙ sym (step_past xs (next_at path) n (beneath path) x lt' (is ∙ ap (λ k. get_or xs k x) ej) none) ∙ inv

pub place_end : (xs : List ParquetType) (path : List ℕ) (begin : Bones StoredLeaf) (i : ℕ) → i ≡ next_at path → length xs ≤ i → rest_in (trees_view xs) (next_at path) (beneath path) ≡ begin → begin ≡ no_bones
place_end xs path begin i ei le inv = let le' : length xs ≤ next_at path = omega (arith, ei, le) in sym inv ∙ rest_end xs (next_at path) (beneath path) le'

pub place_nests : (xs : List ParquetType) (path : List ℕ) (i j : ℕ) (x : ParquetType) → i ≡ next_at path → i < length xs → j ≡ next_at path → x ≡ get_or xs j x → nesting (tree_view x) ≤ nesting_of (trees_view xs)
place_nests xs path i j x ei lt ej is =
    let lt' : next_at path < length xs = omega (arith, ei, lt) in
    nests_at xs (next_at path) x lt' (is ∙ ap (λ k. get_or xs k x) ej)
