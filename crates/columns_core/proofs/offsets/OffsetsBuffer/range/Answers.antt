use Rattle.std.proofs.Common.{arith}
use Rattle.columns_core.proofs.Places.{rises}
use Rattle.columns_core.proofs.offsets.OffsetsBuffer.range.Goals as goal

pub overflow_sub-range : goal.overflow_sub-range
overflow_sub-range g c = omega (arith, rises c.args.self.now c.know.ensures, c.last.ensures.place, c.first.ensures.place, c.to_usize.ensures.value, c.to_usize-2.ensures.value)
