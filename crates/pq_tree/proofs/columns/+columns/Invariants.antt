use Rattle.std.proofs.Common.{◌≡◌, ◌≤◌, ◌+◌, ◌++◌, map, drop}
use Rattle.pq_tree.specs.Columns.{columns_beneath}
use Rattle.pq_tree.specs.Described.{column_view}
use Rattle.pq_tree.specs.Tree.{nesting_of}
use Rattle.pq_tree.specs.TreeViews.{trees_view}
use Rattle.pq_tree.proofs.columns.+columns.Given as goal

abbrev pub invariant-push_all_columns-loop-tree : goal.invariant-push_all_columns-loop-tree
invariant-push_all_columns-loop-tree l = record {
  defines : l.definition + nesting_of (trees_view (drop l.tree-index l.tree-items)) ≤ 255;
  repeats : l.repetition + nesting_of (trees_view (drop l.tree-index l.tree-items)) ≤ 255;
  whole :
      map column_view l.columns.items ++ columns_beneath l.definition l.repetition (trees_view (drop l.tree-index l.tree-items))
      ≡ map column_view l.initial.columns.items ++ columns_beneath l.definition l.repetition (trees_view l.trees.items);
}
