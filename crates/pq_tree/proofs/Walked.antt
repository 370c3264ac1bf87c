-- A walk that counts the levels on its way finds the columns of the leaves.
use Rattle.std.proofs.Common.{◌≡◌, ℕ, ◌+◌, List, [], ◌∷◌, ◌++◌, map, Option, Some, None, pos, refl, sym, ap, ◌∙◌, add_assoc, zero-add, arith}
use Rattle.pq_tree.specs.Columns.{last_of, Column, column_of, columns_in, columns_under, columns_beneath}
use Rattle.pq_tree.specs.Options.{or_else}
use Rattle.pq_tree.specs.Tree.{Leaf, under, Tree, leaf, group, Trees, no_trees, tree, leaves, leaves_of, max_definition, max_repetition, defines, repeats}
use Rattle.pq_tree.specs.Types.{Info}

-- a leaf's column beneath nodes with so many levels, the last of which is given
abbrev column_at : ℕ → ℕ → Option Info → Leaf → Column
column_at d r above l = record { info = or_else (last_of l.path) above; physical = l.physical; max_definition = pos (d + max_definition l); max_repetition = pos (r + max_repetition l) }

or_else-assoc : (a b c : Option Info) → or_else (or_else a b) c ≡ or_else a (or_else b c)
or_else-assoc (Some x) b c = refl
or_else-assoc None b c = refl

or_else-none : (a : Option Info) → or_else a None ≡ a
or_else-none (Some x) = refl
or_else-none None = refl

map-append : {A B : Type 0} (f : A → B) (xs ys : List A) → map f (xs ++ ys) ≡ map f xs ++ map f ys
map-append f [] ys = refl
map-append f (x ∷ xs) ys = ap (λ zs. f x ∷ zs) (map-append f xs ys)

one_under : (d r : ℕ) (above : Option Info) (info : Info) (l : Leaf)
    → column_at d r above (under info l) ≡ column_at (d + defines info.repetition) (r + repeats info.repetition) (Some info) l
one_under d r above info l =
    λ i.
    record {
      info = or_else-assoc (last_of l.path) (Some info) above i;
      physical = l.physical;
      max_definition = pos (sym (add_assoc d (defines info.repetition) (max_definition l)) i);
      max_repetition = pos (sym (add_assoc r (repeats info.repetition) (max_repetition l)) i);
    }

all_under : (d r : ℕ) (above : Option Info) (info : Info) (ls : List Leaf)
    → map (column_at d r above) (map (under info) ls) ≡ map (column_at (d + defines info.repetition) (r + repeats info.repetition) (Some info)) ls
all_under d r above info [] = refl
all_under d r above info (l ∷ ls) = λ i. one_under d r above info l i ∷ all_under d r above info ls i

mutual
  walked : (d r : ℕ) (above : Option Info) (t : Tree) → columns_under d r t ≡ map (column_at d r above) (leaves t)
  walked d r above (leaf info p) =
      let e : defines info.repetition ≡ defines info.repetition + 0 = omega arith in
      let f : repeats info.repetition ≡ repeats info.repetition + 0 = omega arith in
      λ i. record { info = Some info; physical = p; max_definition = pos (d + e i); max_repetition = pos (r + f i) } ∷ []
  walked d r above (group info ts) =
      walked_all (d + defines info.repetition) (r + repeats info.repetition) (Some info) ts ∙ sym (all_under d r above info (leaves_of ts))

  walked_all : (d r : ℕ) (above : Option Info) (ts : Trees) → columns_beneath d r ts ≡ map (column_at d r above) (leaves_of ts)
  walked_all d r above no_trees = refl
  walked_all d r above (tree t ts) =
      (λ i. walked d r above t i ++ walked_all d r above ts i) ∙ sym (map-append (column_at d r above) (leaves t) (leaves_of ts))

from_root : (ls : List Leaf) → map (column_at 0 0 None) ls ≡ map column_of ls
from_root [] = refl
from_root (l ∷ ls) =
    λ i.
    record { info = or_else-none (last_of l.path) i; physical = l.physical; max_definition = pos (zero-add (max_definition l) i); max_repetition = pos (zero-add (max_repetition l) i) }
    ∷ from_root ls i

pub columns_walked : (ts : Trees) → columns_beneath 0 0 ts ≡ columns_in ts
columns_walked ts = walked_all 0 0 None ts ∙ from_root (leaves_of ts)
