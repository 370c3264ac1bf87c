use Rattle.std.proofs.Common.{◌≤◌}
use Rattle.columns_base.specs.declared.error.Error.{Error}
use Rattle.pq_tree.specs.Tree.{Leaf}
use Rattle.pq_tree.specs.declared.version.Version.{Version}
use Rattle.pq_files.specs.Layout.{OutChunk}
use Rattle.write_file.proofs.Going.{Going}
use Rattle.write_file.proofs.push.push_pages.Given as goal

abbrev pub invariant-pages : goal.invariant-pages
invariant-pages g l = record {
  going : (version : Version) (leaf : Leaf) (c : OutChunk) → g.P.ChunkPages.gives l.fn.pages version leaf c → Going g.P.ChunkPages.gives version leaf c l.pages (g.W.Sink.taken l.fn.sink) (g.W.Sink.taken l.sink) l.pushed.bytes l.pushed.pairs l.pushed.pages;
  few : l.pushed.pages ≤ l.pushed.bytes;
  later : g.W.Sink.faults l.fn.sink ≤ g.W.Sink.faults l.sink;
  refusals : (e : Error) → g.P.ChunkPages.refuses l.pages e → g.P.ChunkPages.refuses l.fn.pages e;
}

abbrev pub decreases-pages : goal.decreases-pages
decreases-pages g l = g.P.ChunkPages.left l.pages
