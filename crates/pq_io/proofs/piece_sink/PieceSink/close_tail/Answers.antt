use Rattle.std.proofs.Common.{◌≡◌, refl, ap, ◌∙◌, ◌++◌, List, Vec, ℕ, append-nil}
use Rattle.std.specs.declared.alloc.Global.{Global}
use Rattle.pq_io.specs.PieceSinks.{joined, pieces_taken}
use Rattle.pq_io.proofs.Pieces.{joined_snoc}
use Rattle.pq_io.proofs.piece_sink.PieceSink.close_tail.Goals as goal

pub returns-in-Ok-clause-closed : goal.returns-in-Ok-clause-closed
returns-in-Ok-clause-closed c =
    let all : joined c.push.new.self.items ≡ pieces_taken c.args.self.now = ap joined c.in-Ok.ensures.items ∙ joined_snoc _ c.replace-tail.result ∙ ap (λ (tail : Vec ℕ Global). joined c.args.self.now.pieces.items ++ tail.items) c.replace-tail.ensures.value in
    (all, ap (λ (tail : Vec ℕ Global). tail.items) c.replace-tail.ensures.after ∙ c.new.ensures.items, refl)

pub returns-in-Ok-clause-same : goal.returns-in-Ok-clause-same
returns-in-Ok-clause-same c =
    let closed = returns-in-Ok-clause-closed c in
    ap (λ (tail : List ℕ). joined c.push.new.self.items ++ tail) closed.1 ∙ append-nil _ ∙ closed.0
