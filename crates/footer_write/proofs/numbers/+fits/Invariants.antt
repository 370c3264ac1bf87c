use Rattle.std.proofs.Common.{drop}
use Rattle.pq_tree.specs.TreeViews.{trees_view}
use Rattle.footer_write.specs.Fits.{TreesFit}
use Rattle.footer_write.proofs.numbers.+fits.Given as goal

abbrev pub invariant-trees_fit-loop-tree : goal.invariant-trees_fit-loop-tree
invariant-trees_fit-loop-tree l = record {
  enough : TreesFit (trees_view (drop l.tree-index l.trees)) → TreesFit (trees_view l.trees);
  needed : TreesFit (trees_view l.trees) → TreesFit (trees_view (drop l.tree-index l.trees));
}
