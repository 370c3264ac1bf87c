use Rattle.std.proofs.Common.{◌≡◌, ◌<◌, ◌^◌, ◌++◌, map, drop}
use Rattle.pq_thrift.specs.Value.{view}
use Rattle.pq_tree.specs.Tree.{preorder_of}
use Rattle.pq_tree.specs.TreeViews.{trees_view}
use Rattle.pq_files.specs.Written.{element_value}
use Rattle.footer_write.specs.Fits.{TreesFit}
use Rattle.footer_write.specs.Room.{trees_room}
use Rattle.footer_write.proofs.elements.+elements.Given as goal

abbrev pub invariant-push_trees-loop-tree : goal.invariant-push_trees-loop-tree
invariant-push_trees-loop-tree l = record {
  fits : TreesFit (trees_view (drop l.tree-index l.trees));
  small : trees_room (trees_view (drop l.tree-index l.trees)) < 2 ^ 31;
  whole :
      map view l.elements.items ++ map element_value (preorder_of (trees_view (drop l.tree-index l.trees)))
      ≡ map view l.initial.elements.items ++ map element_value (preorder_of (trees_view l.trees));
}
