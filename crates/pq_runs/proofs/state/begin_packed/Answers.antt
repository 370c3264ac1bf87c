use Rattle.std.proofs.Common.{◌<◌, arith, inl, inr}
use Rattle.pq_runs.specs.State.{items}
use Rattle.pq_runs.proofs.Items.{packed_begins}
use Rattle.pq_runs.proofs.state.begin_packed.Goals as goal

pub returns-clause-same : goal.returns-clause-same
unfolding items
returns-clause-same c =
    let some : 0 < c.args.state.now.width = elim c.requires.is.bits [ inl h ↦ h | inr e ↦ absurd (omega arith) ] in
    packed_begins c.args.state.now.width c.args.state.now.left c.args.state.now.copies c.args.state.now.number c.args.state.now.standing _ c.standing-state.result c.args.state.now.bytes.now c.args.body.now c.args.rest.now some c.requires.none c.requires.some c.requires.run c.standing-state.ensures
