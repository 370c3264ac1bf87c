use Rattle.std.proofs.Common.{◌≡◌, ◌≤◌, ◌+◌, List, length, drop, map}
use Rattle.std.specs.Vec.Iter.{into_iter_items}
use Rattle.pq_tree.specs.Tree.{Leaf}
use Rattle.pq_tree.specs.declared.version.Version.{Version}
use Rattle.pq_files.specs.Layout.{OutChunk}
use Rattle.footer_write.specs.FooterView.{chunk_view}
use Rattle.pq_files.specs.Room.{max_count}
use Rattle.write_file.proofs.Columns.{Pushed}
use Rattle.write_file.specs.Leaves.{AreMetasOf}
use Rattle.write_file.specs.Pages.{AllGive}
use Rattle.write_file.proofs.group.push_columns.Given as goal

abbrev pub invariant-columns : goal.invariant-columns
invariant-columns g l = record {
  within : l.i ≤ length l.fn.columns.items;
  few : l.fn.start + l.pages ≤ l.end;
  most : l.end ≤ max_count;
  rest : drop l.i l.fn.columns.items ≡ into_iter_items l.left;
  pushed : (version : Version) (ls : List Leaf) (cs : List OutChunk) → AreMetasOf ls l.leaves → AllGive g.P.ChunkPages.begins version ls cs l.fn.columns.items → Pushed version ls cs l.i l.fn.start l.end l.pages (g.W.Sink.taken l.fn.sink) (g.W.Sink.taken l.sink) (map chunk_view l.metas.items);
  later : g.W.Sink.faults l.fn.sink ≤ g.W.Sink.faults l.sink;
}

abbrev pub decreases-columns : goal.decreases-columns
decreases-columns g l = length (into_iter_items l.left)
