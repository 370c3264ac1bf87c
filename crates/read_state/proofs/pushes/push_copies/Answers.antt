use Rattle.std.proofs.Common.{arith}
use Rattle.read_state.proofs.Lengths.{copies, start-again}
use Rattle.read_state.proofs.pushes.push_copies.Goals as goal

pub returns-clause-ok : goal.returns-clause-ok
returns-clause-ok c = copies c.args.lengths.now.items c.resize.new.self.items c.in-Some.size c.args.count c.args.first _ (start-again c.args.first c.length_of.result (omega arith) c.length_of.ensures) (omega (arith, c.in-Some.ensures, c.len.ensures, c.args.lengths.now.ok.0)) (rw c.args.lengths.now.ok.0 at c.in_ok-resize.ensures.items)
