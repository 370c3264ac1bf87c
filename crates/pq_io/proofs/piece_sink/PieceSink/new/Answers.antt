use Rattle.std.proofs.Common.{ap, ◌∙◌, ◌++◌, List, ℕ}
use Rattle.pq_io.specs.PieceSinks.{joined}
use Rattle.pq_io.proofs.Pieces.{joined_none}
use Rattle.pq_io.proofs.piece_sink.PieceSink.new.Goals as goal

pub returns-clause-taken : goal.returns-clause-taken
returns-clause-taken c = ap (λ (text : List ℕ). text ++ c.new-2.result.items) (ap joined c.new.ensures.items ∙ joined_none) ∙ c.new-2.ensures.items
