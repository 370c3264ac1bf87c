-- Paths are no longer than trees are deep.
use Rattle.std.proofs.Common.{◌≡◌, ℕ, suc, ◌<◌, ◌≤◌, max, Bool, true, false, cond, Option, None, Some, List, [], ◌∷◌, ◌++◌, length, refl, ap, arith}
use Rattle.shredding.specs.Parts.{Part}
use Rattle.columns_slots.specs.Tree.{ArrayTree, null_array, leaf_array, list_array, fixed_list_array, struct_array, dictionary_array, ArrayTrees, no_arrays, more_arrays}
use Rattle.nested_paths.specs.Nodes.{given, is_repeated, only_tree, only_child, item_node, field_nodes, is_optional}
use Rattle.nested_paths.specs.Paths.{part_at, below, paths, paths_in}
use Rattle.pq_tree.specs.Tree.{Tree, leaf, group, Trees, no_trees, tree, nesting, nesting_of}
use Rattle.write_pages.specs.Columns.{AreShort}

abbrev Shorter : ℕ → List (List Part) → Type 0
Shorter n [] = Unit {0}
Shorter n (p ∷ ps) = (length p ≤ n) × Shorter n ps

some_node : (t : Tree) → 1 ≤ nesting t
some_node (leaf info p) = omega arith
some_node (group info ts) = omega arith

both_shorter : (n m k : ℕ) (xs ys : List (List Part)) → n ≤ k → m ≤ k → Shorter n xs → Shorter m ys → Shorter k (xs ++ ys)
both_shorter n m k [] [] a b h g = tt
both_shorter n m k [] (y ∷ ys) a b h g = (omega (arith, b, g.0), both_shorter n m k [] ys a b tt g.1)
both_shorter n m k (x ∷ xs) ys a b h g = (omega (arith, a, h.0), both_shorter n m k xs ys a b h.1 g)

below_shorter : (n m : ℕ) (p : Part) (xs : List (List Part)) → n < m → Shorter n xs → Shorter m (below (p ∷ []) xs)
below_shorter n m p [] a h = tt
below_shorter n m p (x ∷ xs) a h = (omega (arith, a, h.0), below_shorter n m p xs a h.1)

-- ---- what lies beneath nests less

inside : Option Tree → Tree → Tree
inside (Some t) d = t
inside None d = d

sole : (ts : Trees) (t : Tree) → only_tree ts ≡ Some t → nesting t < suc (nesting_of ts)
unfolding inside
sole no_trees t e = absurd cc
sole (tree u no_trees) t e = let same : nesting u ≡ nesting t = ap (λ (o : Option Tree). nesting (inside o u)) e in omega (arith, same)
sole (tree u (tree v us)) t e = absurd cc

kept : (b : Bool) (ts : Trees) (t : Tree) → given None only_tree (cond b (Some ts) None) ≡ Some t → nesting t < suc (nesting_of ts)
kept true ts t e = sole ts t e
kept false ts t e = absurd cc

dropped : (b : Bool) (ts : Trees) (t : Tree) → given None only_tree (cond b None (Some ts)) ≡ Some t → nesting t < suc (nesting_of ts)
dropped true ts t e = absurd cc
dropped false ts t e = sole ts t e

only_nests : (asked : Bool) (node t : Tree) → only_child asked node ≡ Some t → nesting t < nesting node
only_nests true (leaf info p) t e = absurd cc
only_nests false (leaf info p) t e = absurd cc
only_nests true (group info ts) t e = kept (is_repeated info) ts t e
only_nests false (group info ts) t e = dropped (is_repeated info) ts t e

item_from : (node item : Tree) (o : Option Tree) → only_child false node ≡ o → given None (only_child true) o ≡ Some item → nesting item < nesting node
item_from node item None a e = absurd cc
item_from node item (Some mid) a e = omega (arith, only_nests false node mid a, only_nests true mid item e)

fields_from : (b : Bool) (ts us : Trees) → cond b None (Some ts) ≡ Some us → nesting_of us < suc (nesting_of ts)
fields_from true ts us e = absurd cc
fields_from false ts us e = let same : nesting_of ts ≡ nesting_of us = ap trees_in e in omega (arith, same)
  where
    trees_in : Option Trees → ℕ
    trees_in (Some x) = nesting_of x
    trees_in None = 0

fields_nest : (node : Tree) (ts : Trees) → field_nodes node ≡ Some ts → nesting_of ts < nesting node
fields_nest (leaf info p) ts e = absurd cc
fields_nest (group info us) ts e = fields_from (is_repeated info) us ts e

-- ---- paths

of_item : (n : ℕ) (p : Part) (c : ArrayTree) (o : Option Tree) → ((item : Tree) → o ≡ Some item → nesting item < n) → ((item : Tree) → Shorter (nesting item) (paths c item)) → Shorter n (below (p ∷ []) (given [] (paths c) o))
of_item n p c None h g = tt
of_item n p c (Some item) h g = below_shorter (nesting item) n p (paths c item) (h item refl) (g item)

of_fields : (n : ℕ) (p : Part) (cs : ArrayTrees) (o : Option Trees) → ((ts : Trees) → o ≡ Some ts → nesting_of ts < n) → ((ts : Trees) → Shorter (nesting_of ts) (paths_in cs ts)) → Shorter n (below (p ∷ []) (given [] (paths_in cs) o))
of_fields n p cs None h g = tt
of_fields n p cs (Some ts) h g = below_shorter (nesting_of ts) n p (paths_in cs ts) (h ts refl) (g ts)

mutual
  shorter : (a : ArrayTree) (node : Tree) → Shorter (nesting node) (paths a node)
  shorter (null_array t n) node = (some_node node, tt)
  shorter (leaf_array t vs m) node = (some_node node, tt)
  shorter (list_array t os c m) node = of_item (nesting node) (part_at (is_optional node) (list_array t os c m)) c (item_node node) (λ item e. item_from node item (only_child false node) refl e) (λ item. shorter c item)
  shorter (fixed_list_array t w n c m) node = tt
  shorter (struct_array t cs m) node = of_fields (nesting node) (part_at (is_optional node) (struct_array t cs m)) cs (field_nodes node) (λ ts e. fields_nest node ts e) (λ ts. shorter_all cs ts)
  shorter (dictionary_array t ks c m) node = (some_node node, tt)

  shorter_all : (cs : ArrayTrees) (nodes : Trees) → Shorter (nesting_of nodes) (paths_in cs nodes)
  shorter_all no_arrays nodes = tt
  shorter_all (more_arrays c cs) no_trees = tt
  shorter_all (more_arrays c cs) (tree node nodes) = both_shorter (nesting node) (nesting_of nodes) (max (nesting node) (nesting_of nodes)) (paths c node) (paths_in cs nodes) (omega arith) (omega arith) (shorter c node) (shorter_all cs nodes)

are_short : (n : ℕ) (ps : List (List Part)) → n ≤ 128 → Shorter n ps → AreShort ps
are_short n [] b h = tt
are_short n (p ∷ ps) b h = (omega (arith, b, h.0), are_short n ps b h.1)

pub paths_short : (a : ArrayTree) (t : Tree) → nesting t ≤ 128 → AreShort (paths a t)
paths_short a t b = are_short (nesting t) (paths a t) b (shorter a t)
