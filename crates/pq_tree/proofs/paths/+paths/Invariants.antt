use Rattle.std.proofs.Common.{◌≡◌, ◌++◌, map, drop, string_bytes}
use Rattle.pq_tree.specs.Paths.{path_view, paths_beneath}
use Rattle.pq_tree.specs.TreeViews.{trees_view}
use Rattle.pq_tree.proofs.paths.+paths.Given as goal

abbrev pub invariant-push_all_paths-loop-tree : goal.invariant-push_all_paths-loop-tree
invariant-push_all_paths-loop-tree l = record {
  whole :
      map path_view l.paths.items ++ paths_beneath (map string_bytes l.names) (trees_view (drop l.tree-index l.tree-items))
      ≡ map path_view l.initial.paths.items ++ paths_beneath (map string_bytes l.names) (trees_view l.trees.items);
}
