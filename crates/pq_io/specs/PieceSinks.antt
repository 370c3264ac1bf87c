-- What the sink in memory that keeps whole pieces has taken.
use Rattle.std.specs.Prelude.{List, Vec, ℕ, [], ◌∷◌, ◌++◌}
use Rattle.std.specs.declared.alloc.Global.{Global}
use Rattle.pq_io.specs.declared.piece_sink.PieceSink.{PieceSink}

-- The bytes of vectors, one behind another.
unfoldable pub joined : List (Vec ℕ Global) → List ℕ
joined [] = []
joined (piece ∷ pieces) = piece.items ++ joined pieces

-- The pieces, and the small ones behind them.
abbrev pub pieces_taken : PieceSink → List ℕ
pieces_taken sink = joined sink.pieces.items ++ sink.tail.items
