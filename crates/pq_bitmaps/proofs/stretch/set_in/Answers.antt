use Rattle.std.proofs.Common.{arith}
use Rattle.columns_core.proofs.Bits.{length_bits}
use Rattle.pq_bitmaps.proofs.Steps.{set_room}
use Rattle.pq_bitmaps.proofs.stretch.set_in.Goals as goal

pub overflow_add-set : goal.overflow_add-set
overflow_add-set c =
    let room = set_room c.loop-is_set.set _ _ _ c.in-Some.is_set c.if-is_set.true c.in-Some.ensures.steps c.loop-is_set.invariant in
    omega (arith, room, length_bits c.args.values.now c.args.offset c.args.count, c.requires.counted)
