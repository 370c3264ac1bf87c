use Rattle.std.proofs.Common.{arith}
use Rattle.pq_runs.specs.State.{items}
use Rattle.pq_runs.proofs.Items.{take_copy, take_packed}
use Rattle.pq_runs.proofs.state.take.Goals as goal

pub returns-then-state-gt0-clause-first : goal.returns-then-state-gt0-clause-first
unfolding items
returns-then-state-gt0-clause-first c = take_copy c.args.state.now.width c.args.state.now.left c.args.state.now.copies c.args.state.now.number c.args.state.now.standing _ c.args.state.now.bytes.now c.if-state-gt0.true c.requires.is.within

pub returns-clause-first : goal.returns-clause-first
unfolding items
returns-clause-first c = rw (c.number_at-number.ensures, c.skip-state.ensures) (take_packed c.args.state.now.width c.args.state.now.left c.args.state.now.copies c.args.state.now.number c.args.state.now.standing c.args.state.now.shift c.args.state.now.packed.now c.args.state.now.bytes.now (omega arith) (omega arith) c.requires.is.are)
