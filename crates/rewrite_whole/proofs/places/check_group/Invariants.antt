use Rattle.std.proofs.Common.{◌≡◌, List, map, take}
use Rattle.std.specs.List.{AllZip}
use Rattle.pq_tree.specs.Columns.{column_of}
use Rattle.pq_tree.specs.Described.{column_view}
use Rattle.pq_tree.specs.Tree.{Leaf}
use Rattle.pq_tree.specs.Views.{chunk_view}
use Rattle.pq_headline.specs.Opened.{ChunkIsPlaced}
use Rattle.rewrite_whole.proofs.places.check_group.Given as goal

abbrev pub invariant-loop-i : goal.invariant-loop-i
invariant-loop-i l = (ls : List Leaf) → map column_view l.columns ≡ map column_of ls → AllZip (ChunkIsPlaced l.place) (map chunk_view (take l.i l.group.columns.items)) (take l.i ls)
