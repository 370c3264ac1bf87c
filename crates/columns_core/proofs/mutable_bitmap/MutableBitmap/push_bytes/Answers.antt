use Rattle.std.proofs.Common.{refl, arith}
use Rattle.columns_core.proofs.Grown.{bytes_grown, still_whole}
use Rattle.columns_core.proofs.mutable_bitmap.MutableBitmap.push_bytes.Goals as goal

pub loop-i-preserved : goal.loop-i-preserved
loop-i-preserved c = (
  bytes_grown c.args.self.now.0 c.loop-i.self.0 c.push_eight.new.self.0 c.args.slice.now c.args.offset c.loop-i.i c.eight_bits.result c.loop-i.invariant.0 c.eight_bits.ensures c.push_eight.ensures.same,
  omega (arith, c.push_eight.ensures.room, c.loop-i.invariant.1),
  λ h. still_whole c.loop-i.self.0 c.push_eight.new.self.0 _ c.push_eight.ensures.same refl (c.loop-i.invariant.2 h),
)
