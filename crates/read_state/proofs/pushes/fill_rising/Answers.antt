use Rattle.std.proofs.Common.{◌+◌, ◌-◌, arith, append-nil}
use Rattle.read_state.proofs.Lengths.{one-more, start-again}
use Rattle.read_state.proofs.Rising.{rising_none}
use Rattle.read_state.proofs.pushes.fill_rising.Goals as goal

pub loop-i-preserved : goal.loop-i-preserved
loop-i-preserved c = record {
  room = omega (arith, c.loop-i.invariant.room, c.push.ensures.capacity, c.push.ensures.upper_bound);
  all = one-more c.loop-i.lengths.items c.push.new.self.items _ (c.args.first + c.loop-i.i) (c.args.first + (c.loop-i.i + 1)) (c.args.count - c.loop-i.i) (c.args.count - (c.loop-i.i + 1)) _ (start-again (c.args.first + c.loop-i.i) c.length_of.result (omega arith) c.length_of.ensures) (rw c.unwrap.ensures at c.push.ensures.items) (omega arith) (omega arith) c.loop-i.invariant.all;
}

pub returns : goal.returns
returns c =
    let none = rising_none (c.args.first + c.loop-i.i) 1 (c.args.count - c.loop-i.i) (omega arith) in
    rw (none, append-nil) at c.loop-i.invariant.all
