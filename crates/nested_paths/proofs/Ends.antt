-- What a leaf of a tree says of itself is the same under any node.
use Rattle.std.proofs.Common.{◌≡◌, Option, Some, None, List, [], ◌∷◌, ◌++◌, map, append_assoc, refl, sym, ap, ◌∙◌}
use Rattle.std.proofs.lemmas.List.{map-append}
use Rattle.pq_tree.specs.Columns.{last_of}
use Rattle.pq_tree.specs.Options.{or_else}
use Rattle.pq_tree.specs.Physical.{Physical}
use Rattle.pq_tree.specs.Tree.{Leaf, under, Tree, leaf, group, Trees, no_trees, tree, leaves, leaves_of}
use Rattle.pq_tree.specs.TreeViews.{tree_view, trees_view}
use Rattle.pq_tree.specs.Types.{Info}
use Rattle.pq_tree.specs.declared.types.ParquetType.{ParquetType}
use Rattle.nested_paths.specs.Leaves.{node_of}

or_twice : (a : Option Info) (i info : Info) → or_else (or_else a (Some i)) (Some info) ≡ or_else a (Some i)
or_twice None i info = refl
or_twice (Some x) i info = refl

all_twice : (i info : Info) (ls : List Leaf) → map node_of (map (under info) (map (under i) ls)) ≡ map node_of (map (under i) ls)
all_twice i info [] = refl
all_twice i info (l ∷ ls) = rw (or_twice (last_of l.path) i info, all_twice i info ls) refl

one_end : (info : Info) (t : Tree) → map node_of (map (under info) (leaves t)) ≡ map node_of (leaves t)
one_end info (leaf i p) = refl
one_end info (group i ts) = all_twice i info (leaves_of ts)

-- the leaves under a group say what they say without it
pub group_ends : (info : Info) (ts : Trees) → map node_of (leaves (group info ts)) ≡ map node_of (leaves_of ts)
group_ends info no_trees = refl
group_ends info (tree t ts) =
    ap (map node_of) (map-append (under info) (leaves t) (leaves_of ts))
    ∙ map-append node_of (map (under info) (leaves t)) (map (under info) (leaves_of ts))
    ∙ rw (one_end info t, group_ends info ts) (sym (map-append node_of (leaves t) (leaves_of ts)))

pub nodes_step : (old new : List (Option Info × Physical)) (x : ParquetType) (before after : List ParquetType) (all : List (Option Info × Physical)) → before ≡ x ∷ after
    → old ++ map node_of (leaves_of (trees_view before)) ≡ all → new ≡ old ++ map node_of (leaves (tree_view x)) → new ++ map node_of (leaves_of (trees_view after)) ≡ all
nodes_step old new x before after all is so grown =
    rw grown (append_assoc old (map node_of (leaves (tree_view x))) (map node_of (leaves_of (trees_view after)))
    ∙ ap (λ ns. old ++ ns) (sym (map-append node_of (leaves (tree_view x)) (leaves_of (trees_view after))))
    ∙ ap (λ ts. old ++ map node_of (leaves_of (trees_view ts))) (sym is) ∙ so)
