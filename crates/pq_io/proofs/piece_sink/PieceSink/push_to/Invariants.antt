use Rattle.std.proofs.Common.{List, ℕ, length, ◌≡◌, ◌++◌, ◌≤◌}
use Rattle.std.specs.Io.KnownBytes.{Appends}
use Rattle.pq_io.specs.PieceSinks.{joined}
use Rattle.pq_io.proofs.piece_sink.PieceSink.push_to.Given as goal

abbrev pub invariant-pieces : goal.invariant-pieces
invariant-pieces g l = record {
  done : (text : List ℕ) × Appends (g.K.Sink.taken l.fn.sink) (g.K.Sink.taken l.sink) text × (joined l.self.pieces.items ≡ text ++ joined l.left);
  later : g.K.Sink.faults l.fn.sink ≤ g.K.Sink.faults l.sink;
  wants_later : g.K.Sink.wants l.fn.sink ≤ g.K.Sink.wants l.sink;
}

abbrev pub decreases-pieces : goal.decreases-pieces
decreases-pieces g l = length l.left
