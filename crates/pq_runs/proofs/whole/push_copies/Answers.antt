use Rattle.std.proofs.Common.{arith}
use Rattle.pq_runs.proofs.Decoding.{copies_more, copies_last}
use Rattle.pq_runs.proofs.whole.push_copies.Goals as goal

pub loop-left-preserved : goal.loop-left-preserved
loop-left-preserved c = copies_more c.loop-left.numbers.items c.extend_from_slice.new.self.items _ c.loop-left.left 64 c.args.number c.loop-left-test.true c.in_ok-extend_from_slice.ensures.items c.loop-left.invariant

pub returns-clause-ok : goal.returns-clause-ok
returns-clause-ok c = copies_last c.loop-left.numbers.items c.extend_from_slice-2.new.self.items _ c.front.result.now c.loop-left.left c.args.number (omega arith) c.front.ensures c.in_ok-extend_from_slice-2.ensures.items c.loop-left.invariant
