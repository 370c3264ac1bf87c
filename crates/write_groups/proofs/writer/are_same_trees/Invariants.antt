use Rattle.std.proofs.Common.{◌≡◌, drop}
use Rattle.pq_tree.specs.TreeViews.{trees_view}
use Rattle.write_groups.proofs.writer.are_same_trees.Given as goal

abbrev pub invariant-trees : goal.invariant-trees
invariant-trees l = record {
  enough : trees_view (drop l.i l.a) ≡ trees_view (drop l.i l.b) → trees_view l.a ≡ trees_view l.b;
  needed : trees_view l.a ≡ trees_view l.b → trees_view (drop l.i l.a) ≡ trees_view (drop l.i l.b);
}
