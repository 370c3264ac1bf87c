use Rattle.std.proofs.Common.{All, map, take}
use Rattle.pq_tree.specs.Tree.{columns_of}
use Rattle.pq_tree.specs.TreeViews.{metadata_view}
use Rattle.pq_tree.specs.Views.{group_view}
use Rattle.pq_headline.specs.Opened.{GroupIsPlaced}
use Rattle.rewrite_whole.proofs.places.check_groups.Given as goal

abbrev pub invariant-loop-group : goal.invariant-loop-group
invariant-loop-group l = All (GroupIsPlaced l.place (columns_of (metadata_view l.metadata).schema)) (map group_view (take l.group-index l.metadata.row_groups.items))
