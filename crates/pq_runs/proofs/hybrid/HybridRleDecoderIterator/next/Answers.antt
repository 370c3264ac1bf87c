use Rattle.std.proofs.Common.{◌∙◌, sym}
use Rattle.pq_runs.proofs.Items.{none_called}
use Rattle.pq_runs.proofs.hybrid.HybridRleDecoderIterator.next.Goals as goal

pub returns-then-self-eq0-clause-steps : goal.returns-then-self-eq0-clause-steps
returns-then-self-eq0-clause-steps c =
    let none = sym c.self.view_is ∙ none_called c.self.inside.state c.self.invariant c.if-self-eq0.true in
    (none, none)
