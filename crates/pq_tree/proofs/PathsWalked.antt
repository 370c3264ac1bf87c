-- A walk that takes the names along finds the paths of the leaves.
use Rattle.std.proofs.Common.{◌≡◌, ℕ, List, [], ◌∷◌, ◌++◌, map, refl, sym, ap, ◌∙◌, append_assoc}
use Rattle.pq_tree.specs.Paths.{names_of, paths_in, paths_under, paths_beneath}
use Rattle.pq_tree.specs.Tree.{Leaf, under, Tree, leaf, group, Trees, no_trees, tree, leaves, leaves_of}
use Rattle.pq_tree.specs.Types.{Info}

abbrev path_at : List (List ℕ) → Leaf → List (List ℕ)
path_at names l = names ++ names_of l

map-append : {A B : Type 0} (f : A → B) (xs ys : List A) → map f (xs ++ ys) ≡ map f xs ++ map f ys
map-append f [] ys = refl
map-append f (x ∷ xs) ys = ap (λ zs. f x ∷ zs) (map-append f xs ys)

all_under : (names : List (List ℕ)) (info : Info) (ls : List Leaf) → map (path_at names) (map (under info) ls) ≡ map (path_at (names ++ info.name ∷ [])) ls
all_under names info [] = refl
all_under names info (l ∷ ls) = λ i. sym (append_assoc names (info.name ∷ []) (names_of l)) i ∷ all_under names info ls i

mutual
  walked : (names : List (List ℕ)) (t : Tree) → paths_under names t ≡ map (path_at names) (leaves t)
  walked names (leaf info p) = refl
  walked names (group info ts) = walked_all (names ++ info.name ∷ []) ts ∙ sym (all_under names info (leaves_of ts))

  walked_all : (names : List (List ℕ)) (ts : Trees) → paths_beneath names ts ≡ map (path_at names) (leaves_of ts)
  walked_all names no_trees = refl
  walked_all names (tree t ts) = (λ i. walked names t i ++ walked_all names ts i) ∙ sym (map-append (path_at names) (leaves t) (leaves_of ts))

pub paths_walked : (ts : Trees) → paths_beneath [] ts ≡ paths_in ts
paths_walked ts = walked_all [] ts
