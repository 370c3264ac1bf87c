use Rattle.std.proofs.Common.{arith}
use Rattle.columns_core.proofs.Grown.{single_grown}
use Rattle.columns_core.proofs.mutable_bitmap.MutableBitmap.push_single.Goals as goal

pub loop-i-preserved : goal.loop-i-preserved
loop-i-preserved c = (
  single_grown c.args.self.now.0 c.loop-i.self.0 c.push.new.self.0 c.args.slice.now c.args.offset c.loop-i.i c.bit_in.result c.loop-i.invariant.0 c.bit_in.ensures (rw c.unwrap.ensures at c.push.ensures.ok),
  omega (arith, c.push.ensures.room, c.loop-i.invariant.1),
)
