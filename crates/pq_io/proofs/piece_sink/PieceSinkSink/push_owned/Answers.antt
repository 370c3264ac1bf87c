use Rattle.std.proofs.Common.{ap, ◌∙◌, ◌++◌, List, ℕ, Some, append-nil}
use Rattle.pq_io.specs.PieceSinks.{joined, pieces_taken}
use Rattle.pq_io.proofs.Pieces.{front_of_all, joined_snoc}
use Rattle.pq_io.proofs.piece_sink.PieceSinkSink.push_owned.Goals as goal

pub returns-in-Ok-clause-all : goal.returns-in-Ok-clause-all
returns-in-Ok-clause-all c =
    let closed = c.in_ok-close_tail.ensures.closed in
    ap (λ (tail : List ℕ). joined c.push-2.new.self.items ++ tail) closed.1 ∙ append-nil _ ∙ ap joined c.in-Ok.ensures.items ∙ joined_snoc _ c.args.bytes ∙ ap (λ (t : List ℕ). t ++ c.args.bytes.items) closed.0

pub returns-in-Ok-clause-front : goal.returns-in-Ok-clause-front
returns-in-Ok-clause-front c = front_of_all (Some (pieces_taken c.args.self.now)) (Some _) c.args.bytes.items (returns-in-Ok-clause-all c)
