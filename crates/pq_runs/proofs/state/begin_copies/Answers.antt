use Rattle.std.proofs.Common.{◌≡◌, min, arith}
use Rattle.pq_runs.specs.State.{items}
use Rattle.pq_runs.proofs.Decoding.{value_size}
use Rattle.pq_runs.proofs.Items.{copies_begin}
use Rattle.pq_runs.proofs.state.begin_copies.Goals as goal
use Rattle.pq_runs.proofs.state.begin_copies.Goals.{then-count-state, else-count-state}

pub whole_number-state-requires : goal.whole_number-state-requires
whole_number-state-requires c = value_size c.args.state.now.width c.args.count c.args.state.now.bytes.now c.args.value.now c.args.rest.now c.requires.is.fits c.requires.run

pub returns-clause-same : goal.returns-clause-same
unfolding items
returns-clause-same c =
    let k : c.if-count-state.state ≡ min c.args.count c.args.state.now.left = elim c.if-count-state.branch [ then-count-state w ↦ omega arith | else-count-state w ↦ omega arith ] in
    copies_begin c.args.state.now.width c.args.state.now.left c.args.state.now.copies c.args.state.now.number c.args.state.now.standing _ c.if-count-state.state c.whole_number-state.result c.args.count c.args.state.now.bytes.now c.args.value.now c.args.rest.now c.requires.none c.requires.some c.requires.run k c.whole_number-state.ensures
