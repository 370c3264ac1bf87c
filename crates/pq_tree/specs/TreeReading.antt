-- The tree that elements in preorder spell, read from left to right with the first fault that is met.
use Rattle.std.specs.Prelude.{◌≡◌, ◌⊎◌, ℕ, zero, suc, ◌+◌, List, [], ◌∷◌, Bool, true, false, Option, Some, None, Result, Ok, Err, ◌==◌, if◌then◌else◌}
use Rattle.columns_base.specs.declared.error.Error.{Error}
use Rattle.columns_base.specs.declared.error.Error.TheVariants.{Memory, OutOfSpec, NotYetImplemented}
use Rattle.columns_base.specs.declared.error.S.TheVariants.{S1}
use Rattle.columns_base.specs.declared.error.N.TheVariants.{N7}
use Rattle.pq_tree.specs.Physical.{Physical}
use Rattle.pq_tree.specs.Tree.{Element, Tree, leaf, group, Trees, no_trees, tree}

-- what is read and the elements behind it, or the first fault
abbrev pub Parse : Type 0 → Type 0
Parse A = List Element → Result (A × List Element) Error

abbrev pub and_then : {A B : Type 0} → Result A Error → (A → Result B Error) → Result B Error
and_then (Ok x) f = f x
and_then (Err e) f = Err e

-- What a call gives, seen by a view, is what reading gives, unless memory ran out.
abbrev pub Gives : {X Y : Type 0} → (X → Y) → Result X Error → Result Y Error → Type 0
Gives see (Ok x) read = read ≡ Ok (see x)
Gives see (Err e) read = (e ≡ Memory) ⊎ (read ≡ Err e)

-- so many trees
unfoldable pub trees_with : Parse Tree → ℕ → Parse Trees
trees_with one zero es = Ok (no_trees, es)
trees_with one (suc n) es = and_then (one es) (λ first. and_then (trees_with one n first.1) (λ others. Ok (tree first.0 others.0, others.1)))

-- a leaf has no children
abbrev pub leaf_of : Element → Physical → Result Tree Error
leaf_of e p = if e.children == 0 then Ok (leaf e.info p) else Err (OutOfSpec S1)

-- the children of a group follow it
abbrev pub group_with : (ℕ → Parse Trees) → Element → Parse Tree
group_with children e es = and_then (children e.children es) (λ x. Ok (group e.info x.0, x.1))

abbrev pub node_with : (ℕ → Parse Trees) → Option Physical → Element → Parse Tree
node_with children (Some p) e es = and_then (leaf_of e p) (λ t. Ok (t, es))
node_with children None e es = group_with children e es

abbrev pub element_with : (ℕ → Parse Trees) → Parse Tree
element_with children [] = Err (OutOfSpec S1)
element_with children (e ∷ es) = node_with children e.physical e es

-- a tree that nests no deeper than the number
unfoldable pub tree_at : ℕ → Parse Tree
tree_at zero es = Err (NotYetImplemented N7)
tree_at (suc depth) es = element_with (trees_with (tree_at depth)) es

abbrev pub trees_at : ℕ → ℕ → Parse Trees
trees_at depth = trees_with (tree_at depth)

-- ---- without the trees

-- a leaf has no children
abbrev pub is_childless : Option Physical → ℕ → Bool
is_childless None children = true
is_childless (Some p) children = children == 0

abbrev pub is_childless_of : Element → Bool
is_childless_of e = is_childless e.physical e.children

-- so many trees, and no element behind them, by counting the nodes that are still to come
abbrev pub counted : ℕ → List Element → Bool
counted zero [] = true
counted zero (e ∷ es) = false
counted (suc n) [] = false
counted (suc n) (e ∷ es) = if is_childless e.physical e.children then counted (n + e.children) es else false
