use Rattle.std.proofs.Common.{ap, ◌∙◌, List, ℕ}
use Rattle.columns_slots.specs.Bytes.{pieces}
use Rattle.read_leaf.proofs.Pieces.{padded}
use Rattle.read_leaf.proofs.binary.Binary.extend_constant.Goals as goal

pub invariant_of-self : goal.invariant_of-self
invariant_of-self g c = rw c.in_err-extend_constant.ensures.err.1 c.self.invariant

pub invariant_of-self-2 : goal.invariant_of-self-2
invariant_of-self-2 g c = rw c.in_ok-extend_constant.ensures.ok (padded c.args.additional c.self.inside.offsets.0 c.self.inside.values.items c.self.invariant).laid

pub returns-clause-ok : goal.returns-clause-ok
returns-clause-ok g c =
    let p = padded c.args.additional c.self.inside.offsets.0 c.self.inside.values.items c.self.invariant in
    rw (← c.self.view_is) (ap (λ (os : List ℕ). pieces os c.self.inside.values.items) c.in_ok-extend_constant.ensures.ok ∙ p.pieces)
