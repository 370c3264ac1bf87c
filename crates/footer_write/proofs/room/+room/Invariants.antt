use Rattle.std.proofs.Common.{◌≡◌, ◌+◌, drop}
use Rattle.pq_tree.specs.TreeViews.{trees_view}
use Rattle.footer_write.specs.Room.{trees_room}
use Rattle.footer_write.proofs.room.+room.Given as goal

abbrev pub invariant-spend_trees-loop-tree : goal.invariant-spend_trees-loop-tree
invariant-spend_trees-loop-tree l = l.left + trees_room (trees_view (drop l.tree-index l.trees)) ≡ l.rest + trees_room (trees_view l.trees)
